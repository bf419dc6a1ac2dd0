-- A part of a held record changed: the bytes moved, then the header's field.
-- Assumes nothing.
use Prim.Native.Nat.{ℕ, ◌+◌, ◌-◌, ◌≤◌, ◌<◌}
use mathlib.Core.Path.{◌≡◌, refl, sym, ap, ap₂, ◌∙◌, subst}
use mathlib.Core.List.{List, [], ◌∷◌, ◌++◌, append_assoc}
use native.Mathlib.Omega.{arith}
use lib.ListN.{length, replicate, length-append}
use Rattle.lists.specs.Bytes.{Bytes}
use Rattle.lists.proofs.Bytes.{bytes_rest}
use Rattle.splice.specs.Moves.{inserted, removed, replaced, padded}
use Rattle.splice.proofs.Laws.{insert-padded, remove-padded, replace_padded}
use Rattle.bits.specs.Bits.{put_at}
use Rattle.bits.specs.Fields.{Field, packed}
use Rattle.entries.proofs.Heads.{with_number, place_of, width_of}
use Rattle.lists.specs.Sizes.{fullest_outcome}
use Rattle.outcome.specs.Head.{Head, fields, header_size, header}
use Rattle.outcome.specs.State.{State, Good, head_for, encode}
use Rattle.outcome.proofs.Head.{header-length, header-put}
use Rattle.outcome.proofs.Fits.{encode-size}
use Rattle.outcome_target.specs.Layout.{layout_of}
use Rattle.outcome_target.specs.Held.{Held}
use Rattle.outcome_target.specs.declared.Layout.{Layout}
use Rattle.outcome_target.proofs.Frames.{Frame}

-- the last row ends where the record ends
pub layout_end : (s : State) → (layout_of s).end ≡ length (encode s)
unfolding layout_of
layout_end s = rw (encode-size s) (omega arith)

-- ---- the header

-- its field i put anew, with zeros behind the record
pub put-header : (h g : Head) (i v m : ℕ) (r u w : List ℕ) → i < 19 → fields g ≡ with_number i v (fields h) → u ≡ padded m (header h ++ r) → Bytes u
    → w ≡ put_at u (place_of i (fields h)) (width_of i (fields h)) v → w ≡ padded m (header g ++ r)
put-header h g i v m r u w k e f b c =
    let z : List ℕ = replicate (m - length (header h ++ r)) 0 in
    let d : u ≡ header h ++ (r ++ z) = f ∙ append_assoc (header h) r z in
    let n : length (header h ++ r) ≡ length (header g ++ r) = simp length-append (omega (arith, header-length h, header-length g)) in
    c
    ∙ ap (λ (t : List ℕ). put_at t (place_of i (fields h)) (width_of i (fields h)) v) d
    ∙ header-put h g i v (r ++ z) k e (bytes_rest (header h) (r ++ z) (subst Bytes d b))
    ∙ sym (append_assoc (header g) r z)
    ∙ ap (λ (j : ℕ). (header g ++ r) ++ replicate (m - j) 0) n

module _ {X : Type 0} {i : ℕ} {move : Layout → ℕ → ℕ → Layout} (F : Frame X i move) (s : State) where
  -- a record by its part
  pub by_part : encode s ≡ header (head_for s) ++ (F.front s ++ (F.bytes (F.get s) ++ F.back s))
  by_part = ap encode (sym (F.same s)) ∙ F.laid s (F.get s) ∙ ap (λ (t : State). header (head_for t) ++ (F.front s ++ (F.bytes (F.get s) ++ F.back s))) (F.same s)

  -- g within the part, with a before it and b behind it; y comes in its place
  module _ (a g y b : List ℕ) (x : X) (eg : F.bytes (F.get s) ≡ a ++ (g ++ b)) (ey : F.bytes x ≡ a ++ (y ++ b)) where
    abbrev pub before : List ℕ
    before = header (head_for s) ++ (F.front s ++ a)

    abbrev pub behind : List ℕ
    behind = b ++ F.back s

    pub before-length : length before ≡ header_size + length (F.front s) + length a
    before-length = simp length-append (omega (arith, header-length (head_for s)))

    pub around : encode s ≡ before ++ (g ++ behind)
    around = by_part ∙ ap (λ (m : List ℕ). header (head_for s) ++ (F.front s ++ (m ++ F.back s))) eg ∙ simp append_assoc

    all-length : header_size + length (F.front s) + length a + length g + length behind ≡ (layout_of s).end
    all-length =
        let e : length (encode s) ≡ length before + (length g + length behind) = ap length around ∙ length-append before (g ++ behind) ∙ ap (λ (k : ℕ). length before + k) (length-append g behind) in
        omega (arith, before-length, layout_end s)

    -- ---- the bytes moved

    module _ (m at : ℕ) (l : List ℕ) (w : l ≡ padded m (encode s)) (place : at ≡ header_size + length (F.front s) + length a) where
      held-parts : l ≡ padded m (before ++ (g ++ behind))
      held-parts = w ∙ ap (padded m) around

      start : length before ≡ at
      start = before-length ∙ sym place

      total : at + length g + length behind ≡ (layout_of s).end
      total = omega (arith, all-length)

      -- y in the place of g
      pub replace_part : (layout_of s).end ≤ m → replaced l at (length g) (layout_of s).end y ≡ padded m (before ++ (y ++ behind))
      replace_part h = replace_padded before g behind m at (length g) (layout_of s).end l held-parts start refl total h y

      -- g taken out
      pub remove-part : (layout_of s).end ≤ m → removed l at (layout_of s).end (length g) ≡ padded m (before ++ behind)
      remove-part h = remove-padded before g behind m at (length g) (layout_of s).end l held-parts start refl total h

      -- y put in where nothing goes
      pub insert-part : g ≡ [] → inserted l at (layout_of s).end y ≡ padded m (before ++ (y ++ behind))
      insert-part e =
          insert-padded before behind m at (layout_of s).end l (held-parts ∙ ap (λ (z : List ℕ). padded m (before ++ (z ++ behind))) e) start
          (omega (arith, total, ap length e)) y

    -- ---- the new record, but for its header

    pub moved-bytes : before ++ (y ++ behind) ≡ header (head_for s) ++ (F.front s ++ (F.bytes x ++ F.back s))
    moved-bytes = sym (ap (λ (m : List ℕ). header (head_for s) ++ (F.front s ++ (m ++ F.back s))) ey ∙ simp append_assoc)

    -- ---- held again

    module _ (n m : ℕ) (good : Good n (F.put s x)) (room : fullest_outcome ≤ m) (u : List ℕ) (e : u ≡ padded m (before ++ (y ++ behind))) where
      new_layout : move (layout_of s) (length g) (length y) ≡ layout_of (F.put s x)
      new_layout =
          F.moves s x (length g) (length y)
          (omega (arith, simp length-append at (ap length eg), simp length-append at (ap length ey)))

      -- where another number is counted
      pub count-changed : (w : List ℕ) → Bytes u → w ≡ put_at u (place_of i (fields (head_for s))) (width_of i (fields (head_for s))) (F.count x) → length w ≡ m
          → Held n w (move (layout_of s) (length g) (length y)) (F.put s x)
      count-changed w b c l =
          record {
            good = good;
            bytes =
                put-header (head_for s) (head_for (F.put s x)) i (F.count x) m (F.front s ++ (F.bytes x ++ F.back s)) u w F.field (F.counted s x) (e ∙ ap (padded m) moved-bytes) b c
                ∙ ap₂ padded (sym l) (sym (F.laid s x));
            layout = new_layout;
            room = subst (λ (j : ℕ). fullest_outcome ≤ j) (sym l) room;
          }

      -- where as many are counted
      pub count_kept : F.count x ≡ F.count (F.get s) → length u ≡ m → Held n u (move (layout_of s) (length g) (length y)) (F.put s x)
      unfolding header
      count_kept c l =
          let fs : List Field = fields (head_for s) in
          let f : fields (head_for (F.put s x)) ≡ fs =
          F.counted s x
          ∙ ap (λ (j : ℕ). with_number i j fs) c
          ∙ sym (F.counted s (F.get s))
          ∙ ap (λ (t : State). fields (head_for t)) (F.same s)
          in
          record {
            good = good;
            bytes =
                e
                ∙ ap (padded m) (moved-bytes ∙ ap (λ (j : List Field). packed j ++ (F.front s ++ (F.bytes x ++ F.back s))) (sym f))
                ∙ ap₂ padded (sym l) (sym (F.laid s x));
            layout = new_layout;
            room = subst (λ (j : ℕ). fullest_outcome ≤ j) (sym l) room;
          }
