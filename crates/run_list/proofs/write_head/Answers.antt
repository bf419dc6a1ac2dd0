-- `run_list::write_head` meets its contract.
use Rattle.std.proofs.Common.{rules}
use Prim.Native.Nat.{ℕ, ◌+◌}
use mathlib.Core.List.{[], ◌∷◌}
use mathlib.Core.Path.{◌≡◌, refl, ap, ◌∙◌}
use mathlib.Core.Bool.{Bool, true, false}
use Rattle.std.specs.Int.{from_bool}
use Rattle.run_list.proofs.Heads.{command_head}
use Rattle.bits.specs.Fields.{packed, bit}
use Rattle.run_list.proofs.write_head.Goals as goal

one_or_none : (b : Bool) → from_bool b ≡ bit b
one_or_none true = refl
one_or_none false = refl

pub returns : goal.returns
returns c =
    let entry = c.args in
    let pre = c.requires in
    let bit-of-call = c.from in
    let put-call = c.put-len_at in
    let put2-call = c.put-unused_at in
    let put3-call = c.put in
    let args = entry in
    let bit-of = bit-of-call in
    let put = put-call in
    let put2 = put2-call in
    let put3 = put3-call in
    command_head args.head.now put.new.s put2.new.s put3.new.s put.result.at put2.result.at
    bit-of.result args.len pre (λ i. search rules) put.ensures.bytes put.ensures.next put2.ensures.bytes
    (put2.ensures.next ∙ ap (λ (i : ℕ). i + 10) put.ensures.next) put3.ensures.bytes ∙ ap
    (λ (i : ℕ). packed ((1, i) ∷ (10, args.len) ∷ (5, 0) ∷ [])) (bit-of.ensures ∙ one_or_none args.builtin)
