-- `mend::verdict_of` meets its contract: what it says is the run's verdict of the slot, and a kept slot's blocks are listed.
-- Each test's answer is the run's on the disk without the lower slots that were dropped. Assumes nothing.
use Rattle.std.proofs.Common.{sym, ◌∙◌, arith}
use Rattle.image.specs.Image.{view_of}
use Rattle.laws.specs.Reader.{bytes}
use Rattle.mend.specs.Lemmas.Noting.{noted_not}
use Rattle.mend.specs.Lemmas.Verdicts.{verdict_empty, verdict-malformed, verdict-repeated, verdict-chain, noted_entry}
use Rattle.mend.proofs.verdict_of.Goals as goal

pub returns-then-not-is_used : goal.returns-then-not-is_used
returns-then-not-is_used c =
    record { value = sym (verdict_empty _ _ _ (sym c.is_used.ensures ∙ c.if-not-is_used.true)); noted = noted_not c.requires.2 (λ e. omega arith) }

pub returns-then-is_malformed : goal.returns-then-is_malformed
returns-then-is_malformed c =
    let is_used_is = sym c.is_used.ensures ∙ c.if-not-is_used.false in
    record { value = sym (verdict-malformed _ _ _ is_used_is (sym c.is_malformed.ensures ∙ c.if-is_malformed.true)); noted = noted_not c.requires.2 (λ e. omega arith) }

pub returns-then-name_stands : goal.returns-then-name_stands
returns-then-name_stands c =
    let is_used_is = sym c.is_used.ensures ∙ c.if-not-is_used.false in
    let is_formed = sym c.is_malformed.ensures ∙ c.if-is_malformed.false in
    let p = c.requires in
    record { value = sym (verdict-repeated _ _ _ is_used_is _ _ p.4 is_formed c.name_stands.ensures c.if-name_stands.true); noted = noted_not p.2 (λ e. omega arith) }

pub returns : goal.returns
returns c =
    let is_used_is = sym c.is_used.ensures ∙ c.if-not-is_used.false in
    let is_formed = sym c.is_malformed.ensures ∙ c.if-is_malformed.false in
    let few = c.links_of-links.ensures in
    let from = c.start_of-start.ensures in
    record {
      value = c.chain_said.ensures.value
          ∙ sym (verdict-chain _ _ _ is_used_is _ _ c.requires.4 is_formed c.args.image.right few from c.name_stands.ensures c.if-name_stands.false);
      noted = noted_entry _ ((view_of c.args.image.layout (bytes c.args.image.bytes.now)).entry c.args.slot) few from c.chain_said.ensures.noted;
    }
