-- A run as code reads it: its head in two bytes, its content in the places that code has.
-- Assumes nothing.
use Prim.Native.Nat.{ℕ, ◌+◌, ◌-◌, ◌≤◌, ◌<◌}
use mathlib.Core.Path.{◌≡◌, refl, sym, ap, ap₂, ◌∙◌}
use mathlib.Core.Bool.{Bool, true, false, ◌&&◌}
use mathlib.Core.List.{List, []}
use native.Mathlib.Omega.{arith}
use borrow.Author.Tests.{le-leb, lt-leb, leb-true, leb-false}
use lib.Dec.{leb, eqb}
use lib.ListN.{length, take, drop, length-drop}
use lib.Seq.{drop-drop}
use Rattle.lists.proofs.Moves.{ap_at}
use Rattle.bits.specs.Bits.{number_at}
use Rattle.entries.specs.Parse.{Parse, got, bad, bind, keep}
use Rattle.entries.specs.Entry.{exactly}
use Rattle.rows.specs.Entry.{head_len, name_len, rest_len, size, name}
use Rattle.rows.specs.declared.Kind.TheVariants as kind
use Rattle.rows.proofs.Readers.{Reads, leb-more, short, swap, head_cut, head_whole}
use Rattle.bits.specs.Fields.{flag_at}
use Rattle.outcome.specs.State.{Run, ok_run, run_at, run_on, one_run}
use Rattle.outcome_check.specs.Check.{ok_run_of}

abbrev pub run_here : List ℕ → Run
run_here bs = record { builtin = flag_at (take 2 bs) 0; place = number_at (take 2 bs) 1 5; template = name kind.Run bs }

-- a run by the length in its head
run_by : (n : ℕ) (bs head : List ℕ) (k : ℕ) → 2 ≤ length bs → k ≡ number_at head 6 9
    → let r : Run = record { builtin = flag_at head 0; place = number_at head 1 5; template = take k (drop 2 bs) } in
    run_on n head (drop 2 bs) ≡ keep (leb (2 + k + 0) (length bs) && (eqb (number_at head 15 1) 0 && ok_run n r)) r (drop (2 + k + 0) bs)
run_by n bs head k h e =
    let r : Run = record { builtin = flag_at head 0; place = number_at head 1 5; template = take k (drop 2 bs) } in
    let d : drop k (drop 2 bs) ≡ drop (2 + k + 0) bs = drop-drop k 2 bs ∙ ap_at (λ i. drop i bs) (2 + k) (2 + k + 0) (omega arith) in
    let m = leb-more 2 k (length (drop 2 bs)) (2 + k + 0) (length bs) (omega arith) (omega (arith, length-drop 2 bs)) in
    ap (λ (i : ℕ). keep (eqb (number_at head 15 1) 0 && (leb i (length (drop 2 bs)) && ok_run n (record { builtin = flag_at head 0; place = number_at head 1 5; template = take i (drop 2 bs) })))
    (record { builtin = flag_at head 0; place = number_at head 1 5; template = take i (drop 2 bs) }) (drop i (drop 2 bs))) (sym e)
    ∙ ap₂ (λ (t : Bool) (x : List ℕ). keep t r x) (swap (eqb (number_at head 15 1) 0) (leb k (length (drop 2 bs))) (ok_run n r)) d
    ∙ ap (λ (t : Bool). keep (t && (eqb (number_at head 15 1) 0 && ok_run n r)) r (drop (2 + k + 0) bs)) m

pub run-reads : (n : ℕ) → Reads Run kind.Run (one_run n) (λ bs. ok_run_of n (take 2 bs) (name kind.Run bs)) run_here
unfolding name_len rest_len
run-reads n = record { is = at }
  where
    at : (bs : List ℕ) → one_run n bs ≡ keep (leb (size kind.Run bs) (length bs) && ok_run_of n (take 2 bs) (name kind.Run bs)) (run_here bs) (drop (size kind.Run bs) bs)
    at bs = go (leb 2 (length bs)) refl
      where
        go : (t : Bool) → leb 2 (length bs) ≡ t
            → one_run n bs ≡ keep (leb (size kind.Run bs) (length bs) && ok_run_of n (take 2 bs) (name kind.Run bs)) (run_here bs) (drop (size kind.Run bs) bs)
        go true h =
            ap (λ (x : Parse (List ℕ)). bind x (run_on n)) (head_whole 2 bs (leb-true 2 (length bs) h))
            ∙ run_by n bs (take 2 bs) (number_at (take 2 bs) 6 9) (leb-true 2 (length bs) h) refl
        go false h =
            ap (λ (x : Parse (List ℕ)). bind x (run_on n)) (head_cut 2 bs (leb-false 2 (length bs) h))
            ∙ short (size kind.Run bs) (length bs) (ok_run_of n (take 2 bs) (name kind.Run bs)) (run_here bs) (drop (size kind.Run bs) bs) (omega (arith, leb-false 2 (length bs) h))
