-- `disk::check_names` meets its contract: the names' refusal, or the chains', or kind and density with the files and the free blocks.
-- Each pass's answer decides the cascade's next step; 3 and 4 are settled. Assumes nothing.
use Rattle.std.proofs.lemmas.Result.{err_from_is_err_and}
use Rattle.disk.specs.Lemmas.Steps.{check_name, check_pass, check_chains}
use Rattle.disk.proofs.check_names.Goals as goal

pub returns-in-Some : goal.returns-in-Some
returns-in-Some c = check_name _ _ c.requires.0 _ c.requires.1 c.requires.2 c.name_fault.ensures c.in-Some.is

pub returns-in_err-free : goal.returns-in_err-free
returns-in_err-free c =
    let refused = err_from_is_err_and c.from_residual.result c.from_residual.ensures.1 in
    rw (refused.1, refused.2)
    (check_chains _ _ c.requires.0 _ c.requires.1 c.requires.2 c.name_fault.ensures c.in_default.is c.chain_rules.ensures c.in_err-free.was)

pub returns : goal.returns
returns c =
    check_pass _ _ c.requires.0 _ c.requires.1 c.requires.2 c.name_fault.ensures c.in_default.is c.chain_rules.ensures c.in_ok-free.was
