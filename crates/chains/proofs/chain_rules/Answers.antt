-- `chains::chain_rules` meets its contract: the chains' fault, else the lowest sharing slot, else the lowest stray block, else the free blocks.
-- Each pass's answer decides the cascade's next step; the marked blocks are those on chains. Assumes nothing.
use Rattle.std.proofs.Common.{◌∙◌}
use Rattle.std.proofs.lemmas.Result.{err_from_is_err_and}
use Rattle.chains.specs.Lemmas.Passes.{chain_faulty, chain_clean, chain_shared, chain-stray, chain_pass}
use Rattle.chains.specs.Lemmas.Tally.{marks_taken}
use Rattle.chains.proofs.chain_rules.Goals as goal

pub returns-in_err-chain_fault : goal.returns-in_err-chain_fault
returns-in_err-chain_fault c =
    let refused = err_from_is_err_and c.from_residual.result c.from_residual.ensures.1 in
    rw (refused.1, refused.2) (chain_faulty _ _ _ c.chain_fault.ensures.fault c.in_err-chain_fault.was)

pub shared_slot-shared-requires : goal.shared_slot-shared-requires
shared_slot-shared-requires c =
    let passed = c.in_ok-chain_fault.was in
    (chain_clean _ _ c.chain_fault.ensures.fault passed, c.count_marked-marked.ensures ∙ marks_taken _ c.requires.0 _ _ (c.chain_fault.ensures.marks_all passed))

pub returns-in-Some : goal.returns-in-Some
returns-in-Some c = chain_shared _ _ _ (chain_clean _ _ c.chain_fault.ensures.fault c.in_ok-chain_fault.was) c.shared_slot-shared.ensures c.in-Some.is

pub stray_block-stray-requires : goal.stray_block-stray-requires
stray_block-stray-requires c =
    let passed = c.in_ok-chain_fault.was in
    let marks = c.chain_fault.ensures.marks_all passed in
    (chain_clean _ _ c.chain_fault.ensures.fault passed, c.count_marked-marked.ensures ∙ marks_taken _ c.requires.0 _ _ marks, c.count_free-free.ensures, marks)

pub returns-in-Some-stray : goal.returns-in-Some-stray
returns-in-Some-stray c =
    chain-stray _ _ _ (chain_clean _ _ c.chain_fault.ensures.fault c.in_ok-chain_fault.was) c.shared_slot-shared.ensures c.in_default.is c.stray_block-stray.ensures c.in-Some-stray.is

pub returns : goal.returns
returns c =
    chain_pass _ _ _ (chain_clean _ _ c.chain_fault.ensures.fault c.in_ok-chain_fault.was) c.shared_slot-shared.ensures c.in_default.is c.stray_block-stray.ensures c.in_default-stray.is
    c.count_free-free.ensures
