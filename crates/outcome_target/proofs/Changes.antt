-- An edit of a held record as code makes it, one law for each move: bytes put in, taken out, or put in the place of others.
-- Assumes nothing.
use Prim.Native.Nat.{ℕ, ◌+◌, ◌≤◌, ◌<◌}
use mathlib.Core.Path.{◌≡◌, refl, sym, ap, ap₂, ◌∙◌, subst}
use mathlib.Core.List.{List, [], ◌∷◌, ◌++◌}
use native.Mathlib.Omega.{arith}
use lib.ListN.{length}
use Rattle.lists.specs.Bytes.{Bytes}
use Rattle.lists.specs.Sizes.{fullest_outcome}
use Rattle.splice.specs.Moves.{inserted, removed, replaced, padded}
use Rattle.bits.specs.Bits.{put_at}
use Rattle.entries.proofs.Heads.{with_number, place_of, width_of}
use Rattle.outcome.specs.Head.{Head, fields, header_size, header}
use Rattle.outcome.specs.State.{State, Good, head_for, body, encode}
use Rattle.outcome_target.specs.Layout.{layout_of}
use Rattle.outcome_target.specs.Held.{Held}
use Rattle.outcome_target.specs.declared.Layout.{Layout}
use Rattle.outcome_target.proofs.Frames.{Frame}
use Rattle.outcome_target.proofs.Edits.{put-header, replace_part, remove-part, insert-part, count-changed, count_kept}
use Rattle.outcome_target.proofs.Facts.{held-size}

module _ (n : ℕ) (l : List ℕ) (lay : Layout) (s : State) (w : Held n l lay s) where
  end_is : lay.end ≡ (layout_of s).end
  end_is = ap (λ (x : Layout). x.end) w.layout

  -- ---- a part

  module _ {X : Type 0} {i : ℕ} {move : Layout → ℕ → ℕ → Layout} (F : Frame X i move) (a g y b : List ℕ) (x : X)
      (eg : F.bytes (F.get s) ≡ a ++ (g ++ b)) (ey : F.bytes x ≡ a ++ (y ++ b)) (good : Good n (F.put s x))
      (at : ℕ) (place : at ≡ header_size + length (F.front s) + length a) (u : List ℕ) where
    abbrev Anew : List ℕ → Type 0
    Anew v = Held n v (move lay (length g) (length y)) (F.put s x)

    moved : (v : List ℕ) → Held n v (move (layout_of s) (length g) (length y)) (F.put s x) → Anew v
    moved v h = subst (λ (j : Layout). Held n v (move j (length g) (length y)) (F.put s x)) (sym w.layout) h

    -- the header counts another number
    module _ (b₁ : Bytes u) (v : List ℕ) (c : v ≡ put_at u (place_of i (fields (head_for s))) (width_of i (fields (head_for s))) (F.count x)) (k : length v ≡ length l) where
      pub part-replaced : u ≡ replaced l at (length g) lay.end y → Anew v
      part-replaced e =
          moved v
          (count-changed F s a g y b x eg ey n (length l) good w.room u
          (e ∙ ap (λ (j : ℕ). replaced l at (length g) j y) end_is
          ∙ replace_part F s a g y b x eg ey (length l) at l w.bytes place (subst (λ (j : ℕ). j ≤ length l) end_is (held-size n l lay s w).1))
          v b₁ c k)

      pub part-removed : y ≡ [] → u ≡ removed l at lay.end (length g) → Anew v
      part-removed z e =
          moved v
          (count-changed F s a g y b x eg ey n (length l) good w.room u
          (e ∙ ap (λ (j : ℕ). removed l at j (length g)) end_is
          ∙ remove-part F s a g y b x eg ey (length l) at l w.bytes place (subst (λ (j : ℕ). j ≤ length l) end_is (held-size n l lay s w).1)
          ∙ ap (λ (j : List ℕ). padded (length l) ((header (head_for s) ++ (F.front s ++ a)) ++ (j ++ (b ++ F.back s)))) (sym z))
          v b₁ c k)

      pub part-inserted : g ≡ [] → u ≡ inserted l at lay.end y → Anew v
      part-inserted z e =
          moved v
          (count-changed F s a g y b x eg ey n (length l) good w.room u
          (e ∙ ap (λ (j : ℕ). inserted l at j y) end_is ∙ insert-part F s a g y b x eg ey (length l) at l w.bytes place z)
          v b₁ c k)

    -- the header counts as many
    pub part_exchanged : u ≡ replaced l at (length g) lay.end y → F.count x ≡ F.count (F.get s) → length u ≡ length l → Anew u
    part_exchanged e c k =
        moved u
        (count_kept F s a g y b x eg ey n (length l) good w.room u
        (e ∙ ap (λ (j : ℕ). replaced l at (length g) j y) end_is
        ∙ replace_part F s a g y b x eg ey (length l) at l w.bytes place (subst (λ (j : ℕ). j ≤ length l) end_is (held-size n l lay s w).1))
        c k)

  -- ---- the header alone

  -- of a state with the same parts, whose header comes of the bytes u
  pub header-changed : (s' : State) (g : Head) (i v : ℕ) (u v' : List ℕ) → s'.output ++ body s' ≡ s.output ++ body s → layout_of s ≡ layout_of s' → Good n s' → i < 19
      → u ≡ padded (length l) (header g ++ (s.output ++ body s)) → Bytes u → fields (head_for s') ≡ with_number i v (fields g)
      → v' ≡ put_at u (place_of i (fields g)) (width_of i (fields g)) v → length v' ≡ length l → Held n v' lay s'
  unfolding encode
  header-changed s' g i v u v' eb el good k e b f c m =
      record {
        good = good;
        bytes =
            put-header g (head_for s') i v (length l) (s.output ++ body s) u v' k f e b c
            ∙ ap₂ (λ (j : ℕ) (r : List ℕ). padded j (header (head_for s') ++ r)) (sym m) (sym eb);
        layout = w.layout ∙ el;
        room = subst (λ (j : ℕ). fullest_outcome ≤ j) (sym m) w.room;
      }

  pub held-header : l ≡ padded (length l) (header (head_for s) ++ (s.output ++ body s))
  unfolding encode
  held-header = w.bytes
