-- What is wanted of the writer holds of the texts that calls of `spillfinch_write` make.
-- Assumes nothing.
use Prim.Native.Nat.{ℕ}
use mathlib.Core.Path.{◌≡◌, refl, sym, ap, ◌∙◌, subst}
use mathlib.Core.List.{List, map}
use native.Mathlib.Omega.{arith}
use borrow.Author.Tests.{leb-true}
use lib.ListN.{length, replicate}
use lib.Seq.{take_at}
use Rattle.lists.specs.Checked.{Checked, refused, ok, Placed, line}
use Rattle.lists.specs.Refusal.{Refusal}
use Rattle.lists.specs.Sizes.{most_text}
use Rattle.lists.proofs.Checked.{holds_at}
use Rattle.text.specs.Run.{Answer, acceptance}
use Rattle.text.proofs.Runs.{refusal-number}
use Rattle.writing.specs.Writing.{rule_of, written, write_checked, answer_of, write}
use Rattle.writing.specs.Wanted.{Reads}
use Rattle.writing.proofs.Texts.{Wrote, wrote, wanted}
use Rattle.spillfinch.specs.Exports.{numbers, WriteGives}
use Rattle.spillfinch.specs.Joined.{number_in, used_in}
use Rattle.spillfinch.specs.Written.{made_in, WellMade, Made}

write-is : (t : List ℕ) (room : ℕ) (c : Checked (Placed Refusal) (List ℕ)) → write_checked t room ≡ c → write t room ≡ answer_of room c
unfolding write
write-is t room c e = ap (answer_of room) e

-- a call that gives the number 0 made a text
record Makes (t : List ℕ) (room : ℕ) (numbered target made : List ℕ) : Type 0 where
  checked : write_checked t room ≡ ok made
  numbers_are : numbered ≡ numbers (acceptance room 0 0 made)
  target_is : target ≡ (acceptance room 0 0 made).bytes

makes : (t : List ℕ) (room : ℕ) (numbered target : List ℕ) → WriteGives t room numbered target → number_in numbered ≡ 0 → (made : List ℕ) × Makes t room numbered target made
makes t room numbered target (a, b) z = at (write_checked t room) refl
  where
    at : (c : Checked (Placed Refusal) (List ℕ)) → write_checked t room ≡ c → (made : List ℕ) × Makes t room numbered target made
    at (refused (line n f)) e =
        let (k, p) = refusal-number f in
        absurd (omega (arith, sym p ∙ sym (ap (λ (x : Answer). x.number) (write-is t room (refused (line n f)) e)) ∙ sym (ap number_in a) ∙ z))
    at (ok made) e =
        let i = write-is t room (ok made) e in
        (made, record { checked = e; numbers_are = a ∙ ap numbers i; target_is = b ∙ ap (λ (x : Answer). x.bytes) i })

module _ (t : List ℕ) (room : ℕ) (numbered target made : List ℕ) (m : Makes t room numbered target made) where
  used_is : used_in numbered ≡ length made
  used_is = ap used_in m.numbers_are

  made-is : made_in numbered target ≡ made
  made-is = rw (used_is, m.target_is) (take_at made _ (length made) refl)

  well_made : WellMade t room numbered target
  well_made =
      let w = holds_at (Wrote t room) m.checked (wrote t room) in
      record {
        reads_back = (
          map rule_of w.rules,
          (w.rules, w.accepted, refl),
          subst (λ (x : List ℕ). Reads x (map rule_of w.rules)) (sym (made-is ∙ w.is))
              (wanted.reads_back t w.rules w.accepted (leb-true (length (written w.rules)) most_text w.short)),
        );
        twice = λ numbered' target' g.
            let (a, b) = subst (λ (x : List ℕ). WriteGives x room numbered' target') made-is g in
            let i = write-is made room (ok made) (wanted.twice t made room m.checked) in
            (a ∙ ap numbers i ∙ sym m.numbers_are, b ∙ ap (λ (x : Answer). x.bytes) i ∙ sym m.target_is);
        no_longer = rw (used_is, w.is) (wanted.no_longer t w.rules w.accepted);
      }

pub calls_made : Made
calls_made t room numbered target g z = let (made, m) = makes t room numbered target g z in well_made t room numbered target made m
