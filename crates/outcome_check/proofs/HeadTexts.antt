-- A text whose length the header gives, in the places that code has.
-- Assumes nothing.
use Prim.Native.Nat.{ℕ, ◌+◌, ◌-◌, ◌≤◌, ◌<◌}
use mathlib.Core.Path.{◌≡◌, sym, ap, ◌∙◌}
use mathlib.Core.Bool.{Bool, true, false}
use mathlib.Core.List.{List}
use native.Mathlib.Omega.{arith}
use borrow.Author.Tests.{le-leb, lt-leb}
use lib.Dec.{leb}
use lib.ListN.{length, take, drop, length-drop}
use lib.Seq.{drop-drop}
use Rattle.lists.proofs.Moves.{ap_at}
use Rattle.lists.proofs.Tests.{and-false}
use Rattle.rows.specs.Row.{end_of}
use Rattle.std.specs.Prelude.{Some, None}
use Rattle.outcome.specs.State.{one_sized}

module _ (ok : List ℕ → Bool) (l : List ℕ) (at k : ℕ) where
  -- its bytes as code takes them
  part : take (at + k - at) (drop at l) ≡ take k (drop at l)
  part = ap_at (λ i. take i (drop at l)) (at + k - at) k (omega arith)

  pub text_short : length l - at < k → end_of (length l) (one_sized ok k (drop at l)) ≡ None
  text_short h = rw (lt-leb k (length (drop at l)) (omega (arith, length-drop at l)))

  pub text-faulty : ok (take (at + k - at) (drop at l)) ≡ false → end_of (length l) (one_sized ok k (drop at l)) ≡ None
  text-faulty h = rw (sym (ap ok part) ∙ h, and-false (leb k (length (drop at l))))

  pub text-sound : at + k ≤ length l → ok (take (at + k - at) (drop at l)) ≡ true → end_of (length l) (one_sized ok k (drop at l)) ≡ Some (at + k)
  text-sound h t =
      rw (sym (ap ok part) ∙ t, le-leb k (length (drop at l)) (omega (arith, length-drop at l)))
      (ap_at (λ i. Some i) (length l - length (drop k (drop at l))) (at + k) (omega (arith, length-drop k (drop at l), length-drop at l)))
