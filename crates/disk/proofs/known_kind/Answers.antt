-- `disk::known_kind` meets its contract: where the first directory is passed over the density tells the kind; else S900 if every slot has its identity,
-- S1000 if every slot has that, else refusal 2. By the three tests. Assumes nothing.
use Rattle.std.proofs.Common.{◌≡◌, ap₂, ◌∙◌, arith, List, ℕ, Bool}
use Rattle.disk.specs.Lemmas.Steps.{kinds_over, kinds_900, kinds_1000, kinds_neither}
use Rattle.laws.specs.Reader.{bytes}
use Rattle.layout.specs.declared.Layout.{Layout}
use Rattle.rules.specs.Check.{has_identity}
use Rattle.disk.proofs.known_kind.Goals as goal

-- what a head's test says where the head is a kind's, of some bytes
told_of : {l m : Layout} {x y : List ℕ} {r : Bool} → r ≡ has_identity l (bytes x) → l ≡ m → x ≡ y → r ≡ has_identity m (bytes y)
told_of e made same = e ∙ ap₂ (λ l x. has_identity l (bytes x)) made same

pub is_passed_over-requires : goal.is_passed_over-requires
is_passed_over-requires c = omega (arith, c.requires)

pub returns-then-is_passed_over : goal.returns-then-is_passed_over
returns-then-is_passed_over c = kinds_over _ _ c.is_passed_over.ensures c.if-is_passed_over.true c.second_kind.ensures

pub returns-then-has_identity : goal.returns-then-has_identity
returns-then-has_identity c =
    kinds_900 _ _ c.is_passed_over.ensures c.if-is_passed_over.false (told_of c.has_identity.ensures c.head_of.ensures.layout c.head_of.ensures.bytes) c.if-has_identity.true

pub returns-then-has_identity-2 : goal.returns-then-has_identity-2
returns-then-has_identity-2 c =
    kinds_1000 _ _ c.is_passed_over.ensures c.if-is_passed_over.false (told_of c.has_identity.ensures c.head_of.ensures.layout c.head_of.ensures.bytes) c.if-has_identity.false (told_of c.has_identity-2.ensures c.head_of-2.ensures.layout c.head_of-2.ensures.bytes) c.if-has_identity-2.true

pub returns : goal.returns
returns c =
    kinds_neither _ _ c.is_passed_over.ensures c.if-is_passed_over.false (told_of c.has_identity.ensures c.head_of.ensures.layout c.head_of.ensures.bytes) c.if-has_identity.false (told_of c.has_identity-2.ensures c.head_of-2.ensures.layout c.head_of-2.ensures.bytes) c.if-has_identity-2.false
