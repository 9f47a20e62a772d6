-- `samples::unpack` meets its contract: each refusal, and the words where there is none, is what `unpack_of` says.
-- Each test is a step of it. Assumes nothing.
use Rattle.std.proofs.Common.{◌≡◌, List, ℕ, sym, ◌∙◌}
use Rattle.samples.specs.declared.Sampler.{Sampler}
use Rattle.samples.specs.Samples.{header_size, file_fault}
use Rattle.samples.specs.Lemmas.Steps.{unpack_refused, Opened, opened_long, unpack_room, unpack_short, unpack_done}
use Rattle.samples.proofs.unpack.Goals as goal
use Rattle.laws.specs.Scan.{Lowest}
use Rattle.std.specs.Prelude.{None}

-- what is known once the header's size is in hand
opened : (sampler : Sampler) (file : List ℕ) {f : Lowest} {size : ℕ} → f ≡ file_fault sampler file → f ≡ None → size ≡ header_size sampler → Opened sampler file size
opened sampler file e h s = record { fault = sym e ∙ h; size_is = s }

pub returns-in-Some : goal.returns-in-Some
returns-in-Some c = unpack_refused c.args.sampler c.args.file.now c.args.words.now c.file_fault.ensures c.in-Some.is

pub slice_bounds-count_in-end : goal.slice_bounds-count_in-end
slice_bounds-count_in-end c =
    opened_long c.args.sampler c.args.file.now (opened c.args.sampler c.args.file.now c.file_fault.ensures c.in_default.is c.header_size-size.ensures.0)

pub returns-then-words-count : goal.returns-then-words-count
returns-then-words-count c =
    let o = opened c.args.sampler c.args.file.now c.file_fault.ensures c.in_default.is c.header_size-size.ensures.0 in
    unpack_short c.args.sampler c.args.file.now c.args.words.now o c.count_in-count.ensures.value c.if-words-count.true

pub fill-requires : goal.fill-requires
fill-requires c =
    let o = opened c.args.sampler c.args.file.now c.file_fault.ensures c.in_default.is c.header_size-size.ensures.0 in
    (unpack_room c.args.sampler c.args.file.now c.args.words.now o c.count_in-count.ensures.value, c.if-words-count.false)

pub returns : goal.returns
returns c =
    let o = opened c.args.sampler c.args.file.now c.file_fault.ensures c.in_default.is c.header_size-size.ensures.0 in
    unpack_done c.args.sampler c.args.file.now c.args.words.now o c.count_in-count.ensures.value c.if-words-count.false c.fill.ensures
