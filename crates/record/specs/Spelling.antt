-- A name may be typed in any spelling (document 02, request two): a call comes to the same as with its name in capitals, on the record and on an image.
-- A name and its capitals are legal together, find one slot, keep one file and are stored as one area. Assumes nothing.
use Rattle.layout.specs.declared.Layout.{Layout}
use Rattle.names.specs.Names.{capitals}
use Rattle.record.specs.Record.{Call, check, list, find, page, put, remove, salvage}

-- The call with its name in capitals.
abbrev pub in_capitals : Layout → Call → Call
in_capitals l check = check
in_capitals l (list s) = list s
in_capitals l (find name type) = find (capitals l name) type
in_capitals l (page s offset out) = page s offset out
in_capitals l (put name type content) = put (capitals l name) type content
in_capitals l (remove name type) = remove (capitals l name) type
in_capitals l (salvage report) = salvage report
