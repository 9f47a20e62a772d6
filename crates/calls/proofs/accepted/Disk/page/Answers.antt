-- `calls::accepted::Disk::page` meets its contract: a slot without a file is refused by 10, an offset above the length by 17, else page and cost are the record's.
-- The bytes copied are the chain's, of which the file's content is the front, and the chain has as many blocks as the file. Assumes nothing.
use Rattle.std.proofs.Common.{◌≡◌, refl, sym, ap, ◌∙◌, true, arith}
use Rattle.calls.specs.Accepts.{right_of, rules_of, first_inside}
use Rattle.calls.specs.Lemmas.Paging.{meters_none, meters_above, meters_file, size_some, content-size, slot_chained, page-bytes}
use Rattle.calls.specs.Lemmas.Slots.{slot_file, file_above, file_empty, file-used}
use Rattle.image.specs.Image.{view_of}
use Rattle.laws.specs.Reader.{bytes}
use Rattle.laws.specs.Splice.{splice}
use Rattle.view.specs.Disk.{used}
use Rattle.calls.proofs.accepted.Disk.page.Goals as goal

pub invariant_of-head : goal.invariant_of-head
invariant_of-head c = record { right = right_of _ _ c.args.self.now.accepted; long = first_inside _ _ c.args.self.now.accepted }

pub returns-then-slots-slot : goal.returns-then-slots-slot
returns-then-slots-slot c =
    let a = c.args in
    let both = meters_none a.self.now.image.now _ a.offset _ c.unpaged.result (file_above a.self.now.layout a.self.now.image.now a.slot c.if-slots-slot.true) c.unpaged.ensures refl in record { image_after = both.0; cost_value = both.1 }

pub returns-then-not-is_used : goal.returns-then-not-is_used
returns-then-not-is_used c =
    let a = c.args in
    let both = meters_none a.self.now.image.now _ a.offset _ c.unpaged-then-not-is_used.result
    (file_empty a.self.now.layout a.self.now.image.now a.slot (omega arith) (sym c.is_used.ensures ∙ c.if-not-is_used.true)) c.unpaged-then-not-is_used.ensures refl in record { image_after = both.0; cost_value = both.1 }

pub returns-then-offset-size : goal.returns-then-offset-size
returns-then-offset-size c =
    let here : (used ((view_of c.args.self.now.layout (bytes c.args.self.now.image.now)).entry c.args.slot) ≡ true) = sym c.is_used.ensures ∙ c.if-not-is_used.false in
    let a = c.args in
    let u = here in
    let both = meters_above a.self.now.image.now _ a.offset _ c.unpaged-then-offset-size.result (slot_file a.self.now.layout a.self.now.image.now a.slot) c.size_of-size.result
    (file-used a.self.now.layout a.self.now.image.now a.slot (omega arith) u) (content-size a.self.now.layout (right_of _ _ c.args.self.now.accepted) a.self.now.image.now (rules_of _ _ c.args.self.now.accepted) a.slot (omega arith) u c.size_of-size.ensures) (omega arith)
    c.unpaged-then-offset-size.ensures refl in record { image_after = both.0; cost_value = both.1 }

pub overflow_sub-links : goal.overflow_sub-links
overflow_sub-links c =
    let here : (used ((view_of c.args.self.now.layout (bytes c.args.self.now.image.now)).entry c.args.slot) ≡ true) = sym c.is_used.ensures ∙ c.if-not-is_used.false in
    let a = c.args in
    size_some a.self.now.layout (right_of _ _ c.args.self.now.accepted) a.self.now.image.now (rules_of _ _ c.args.self.now.accepted) a.slot (omega arith) here c.size_of-size.ensures

pub page_runs-cost-requires : goal.page_runs-cost-requires
page_runs-cost-requires c =
    let right = right_of _ _ c.args.self.now.accepted in
    let rules = rules_of _ _ c.args.self.now.accepted in
    let here : (used ((view_of c.args.self.now.layout (bytes c.args.self.now.image.now)).entry c.args.slot) ≡ true) = sym c.is_used.ensures ∙ c.if-not-is_used.false in
    let a = c.args in
    let some = size_some a.self.now.layout right a.self.now.image.now rules a.slot (omega arith) here c.size_of-size.ensures in record {
      layout_right = (right, rules.size, slot_chained a.self.now.layout right a.self.now.image.now rules a.slot (omega arith) here c.size_of-size.ensures c.start_of-start.ensures);
      count_bound = (omega arith, omega arith);
    }

pub returns : goal.returns
returns c =
    let right = right_of _ _ c.args.self.now.accepted in
    let rules = rules_of _ _ c.args.self.now.accepted in
    let here : (used ((view_of c.args.self.now.layout (bytes c.args.self.now.image.now)).entry c.args.slot) ≡ true) = sym c.is_used.ensures ∙ c.if-not-is_used.false in
    let a = c.args in
    let l = a.self.now.layout in
    let img = a.self.now.image.now in
    let u = here in
    let n = content-size l right img rules a.slot (omega arith) u c.size_of-size.ensures in
    let some = size_some l right img rules a.slot (omega arith) u c.size_of-size.ensures in
    let both = meters_file img _ a.offset _ (slot_file l img a.slot) c.size_of-size.result c.min-count.result
    (file-used l img a.slot (omega arith) u) n some (omega arith) c.min-count.ensures refl
    (c.page_runs-cost.ensures.out_after
    ∙ ap (splice _ 0)
    (page-bytes l right img rules a.slot (omega arith) u c.size_of-size.ensures c.start_of-start.ensures a.offset c.min-count.result (omega arith)))
    c.page_runs-cost.ensures.value in record { image_after = both.0; cost_value = both.1 }
