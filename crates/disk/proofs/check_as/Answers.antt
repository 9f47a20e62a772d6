-- `disk::check_as` meets its contract: system values, then slots, then the rest, by the layout of the kind and the density.
-- Each pass's answer decides the cascade's next step. Assumes nothing.
use Rattle.std.proofs.Common.{◌≡◌, sym, ap, ◌∙◌, List, ℕ}
use Rattle.std.proofs.lemmas.Result.{err_from_is_err_and}
use Rattle.disk.specs.Lemmas.Steps.{check_system, check_form}
use Rattle.laws.specs.Reader.{bytes}
use Rattle.layout.specs.declared.Kind.{Kind}
use Rattle.layout.specs.declared.Density.{Density}
use Rattle.rules.specs.Check.{check_as}
use Rattle.disk.proofs.check_as.Goals as goal

-- the check reads bytes alone
check_same : (k : Kind) (d : Density) {x y : List ℕ} → x ≡ y → check_as k d (bytes x) ≡ check_as k d (bytes y)
check_same k d same = ap (λ x. check_as k d (bytes x)) same

pub returns-in-Some : goal.returns-in-Some
returns-in-Some c =
    check_system _ _ c.head_of-head.ensures.layout _ c.system_fault.ensures c.in-Some.is ∙ check_same c.args.kind c.args.density c.head_of-head.ensures.bytes

pub check_names-requires : goal.check_names-requires
check_names-requires c = (
  c.head_of-head.ensures.layout,
  sym c.system_fault.ensures ∙ c.in_default.is,
  sym c.in_ok-files.was ∙ c.count_formed.ensures,
)

pub returns-in_err-files : goal.returns-in_err-files
returns-in_err-files c =
    let refused = err_from_is_err_and c.from_residual.result c.from_residual.ensures.1 in
    rw (refused.1, refused.2)
    (check_form _ _ c.head_of-head.ensures.layout _ (sym c.system_fault.ensures ∙ c.in_default.is) _ (sym c.in_err-files.was ∙ c.count_formed.ensures)
    ∙ check_same c.args.kind c.args.density c.head_of-head.ensures.bytes)
