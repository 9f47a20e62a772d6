-- `samples::pack` meets its contract: each refusal, and the file where there is none, is what `pack_of` says.
-- Each test is a step of it; header and data are stored one after the other. Assumes nothing.
use Rattle.std.proofs.Common.{◌≡◌, List, ℕ, ℤ, length, sym, ap, ◌∙◌, arith}
use Rattle.laws.specs.Splice.{part}
use Rattle.laws.specs.Lemmas.Splice.{length-splice}
use Rattle.samples.specs.declared.Sampler.{Sampler}
use Rattle.samples.specs.Samples.{header_size, count_in, data_size, header_fault, range_fault}
use Rattle.samples.specs.Lemmas.Steps.{pack_refused, pack_outside, Ready, ready_header, ready_rest, pack_short, pack_done}
use Rattle.samples.specs.Rules.{header_accepted}
use Rattle.samples.proofs.pack.Goals as goal
use Rattle.laws.specs.Scan.{Lowest}
use Rattle.std.specs.Prelude.{None}

-- what is known once all sizes are in hand
ready : (sampler : Sampler) (header : List ℕ) (words : List ℤ) {f g : Lowest} {size count rest : ℕ} → f ≡ header_fault sampler header (length words) → f ≡ None
    → g ≡ range_fault sampler words → g ≡ None → size ≡ header_size sampler → count ≡ count_in sampler header → rest ≡ data_size sampler count
    → Ready sampler header words size count rest
ready sampler header words e h r k s n d = record { fault = sym e ∙ h; range = sym r ∙ k; size_is = s; count_is = n; rest_is = d }

pub returns-in-Some : goal.returns-in-Some
returns-in-Some c = pack_refused c.args.sampler c.args.header.now c.args.words.now c.args.out.now c.header_fault.ensures c.in-Some.is

pub returns-in-Some-range_fault : goal.returns-in-Some-range_fault
returns-in-Some-range_fault c =
    pack_outside c.args.sampler c.args.header.now c.args.words.now c.args.out.now c.header_fault.ensures c.in_default.is c.range_fault.ensures c.in-Some-range_fault.is

pub count_in-requires : goal.count_in-requires
count_in-requires c = ((header_accepted _ _ _).0 (sym c.header_fault.ensures ∙ c.in_default.is)).0.size

pub returns-then-out-due : goal.returns-then-out-due
returns-then-out-due c =
    let a = c.args in
    let r = ready a.sampler a.header.now a.words.now c.header_fault.ensures c.in_default.is c.range_fault.ensures c.in_default-range_fault.is c.header_size-size.ensures.0 c.count_in.ensures.value c.data_size.ensures.0 in
    pack_short a.sampler a.header.now a.words.now a.out.now r c.if-out-due.true

pub copy_part-requires : goal.copy_part-requires
copy_part-requires c =
    let a = c.args in
    let r = ready a.sampler a.header.now a.words.now c.header_fault.ensures c.in_default.is c.range_fault.ensures c.in_default-range_fault.is c.header_size-size.ensures.0 c.count_in.ensures.value c.data_size.ensures.0 in
    let e = ready_header a.sampler a.header.now a.words.now a.out.now r in
    (omega arith, omega arith)

pub store-requires : goal.store-requires
store-requires c =
    let a = c.args in
    let r = ready a.sampler a.header.now a.words.now c.header_fault.ensures c.in_default.is c.range_fault.ensures c.in_default-range_fault.is c.header_size-size.ensures.0 c.count_in.ensures.value c.data_size.ensures.0 in
    let e = ready_rest a.sampler a.header.now a.words.now a.out.now r in
    omega (arith, ap length c.copy_part.ensures, length-splice a.out.now 0 (part a.header.now 0 c.header_size-size.result))

pub returns : goal.returns
returns c =
    let a = c.args in
    let r = ready a.sampler a.header.now a.words.now c.header_fault.ensures c.in_default.is c.range_fault.ensures c.in_default-range_fault.is c.header_size-size.ensures.0 c.count_in.ensures.value c.data_size.ensures.0 in
    pack_done a.sampler a.header.now a.words.now a.out.now r c.if-out-due.false c.copy_part.ensures c.store.ensures
