-- What the bytes of a held record say of its state.
-- Assumes nothing.
use Prim.Native.Nat.{ℕ, ◌+◌, ◌-◌, ◌*◌, ◌≤◌, ◌<◌}
use mathlib.Core.Path.{◌≡◌, refl, sym, ap, ap₂, ◌∙◌, subst}
use mathlib.Core.Bool.{Bool, true}
use mathlib.Core.List.{List, [], ◌∷◌, ◌++◌, append_assoc}
use native.Mathlib.Omega.{arith}
use lib.ListN.{length, take, drop, replicate, length-append}
use lib.Seq.{drop_at}
use Rattle.lists.specs.Lists.{cat, all}
use Rattle.lists.specs.Sizes.{fullest_outcome}
use Rattle.splice.specs.Moves.{padded}
use Rattle.bits.specs.Bits.{number_at}
use Rattle.bits.proofs.Numbers.{number-front}
use Rattle.entries.specs.Parse.{Parse, got, many}
use Rattle.entries.proofs.Rows.{Laws, many_there}
use Rattle.outcome.specs.Head.{Head, header_size, header, head_of}
use Rattle.outcome.specs.State.{State, Good, head_for, body, encode}
use Rattle.outcome.proofs.Head.{header-length, head_there}
use Rattle.outcome.proofs.RoundTrip.{good_fit}
use Rattle.outcome.proofs.Fits.{fits}
use Rattle.outcome_target.specs.Layout.{layout_of, Rising}
use Rattle.outcome_target.specs.Held.{Held}
use Rattle.outcome_target.specs.declared.Layout.{Layout}
use Rattle.outcome_target.proofs.Frames.{Frame}
use Rattle.outcome_target.proofs.Edits.{by_part, layout_end}

-- ---- the layout

rising-state : (s : State) → Rising (layout_of s)
unfolding layout_of
rising-state s = record { header = omega arith; links = omega arith; properties = omega arith; tags = omega arith; runs = omega arith }

module _ (n : ℕ) (l : List ℕ) (lay : Layout) (s : State) (w : Held n l lay s) where
  pub held-rising : Rising lay
  held-rising = subst Rising (sym w.layout) (rising-state s)

  -- how long the record is, and what room there is
  pub held-size : (lay.end ≤ fullest_outcome) × (lay.end ≤ length l)
  held-size =
      let e : lay.end ≡ length (encode s) = ap (λ (x : Layout). x.end) w.layout ∙ layout_end s in
      (omega (arith, fits n s w.good), omega (arith, fits n s w.good, w.room))

  -- ---- the header

  head_bytes : l ≡ header (head_for s) ++ (drop header_size l)
  unfolding encode
  head_bytes =
      let z : List ℕ = replicate (length l - length (encode s)) 0 in
      let r : List ℕ = s.output ++ body s in
      let e : l ≡ header (head_for s) ++ (r ++ z) = w.bytes ∙ append_assoc (header (head_for s)) r z in
      e ∙ ap (λ (x : List ℕ). header (head_for s) ++ x) (sym (ap (drop header_size) e ∙ drop_at (header (head_for s)) (r ++ z) header_size (header-length (head_for s))))

  -- a field of it
  pub held_number : (at k : ℕ) → at + k ≤ header_size * 8 → number_at l at k ≡ number_at (header (head_for s)) at k
  held_number at k h =
      ap (λ (x : List ℕ). number_at x at k) head_bytes
      ∙ number-front (header (head_for s)) (drop header_size l) at k (omega (arith, header-length (head_for s)))

  pub held_head : head_of (header (head_for s)) ≡ head_for s
  held_head = head_there (head_for s) (good_fit n s w.good)

  -- ---- a part

  module _ {X : Type 0} {i : ℕ} {move : Layout → ℕ → ℕ → Layout} (F : Frame X i move) where
    -- what follows from its start on
    abbrev pub behind : List ℕ
    behind = F.back s ++ replicate (length l - length (encode s)) 0

    pub held-part : (at : ℕ) → at ≡ header_size + length (F.front s) → drop at l ≡ F.bytes (F.get s) ++ behind
    held-part at e =
        let h : List ℕ = header (head_for s) in
        let z : List ℕ = replicate (length l - length (encode s)) 0 in
        let q : l ≡ (h ++ F.front s) ++ (F.bytes (F.get s) ++ behind) =
        w.bytes ∙ ap (λ (x : List ℕ). x ++ z) (by_part F s) ∙ simp append_assoc
        in
        ap (drop at) q ∙ drop_at (h ++ F.front s) (F.bytes (F.get s) ++ behind) at (length-append h (F.front s) ∙ omega (arith, header-length (head_for s)))
