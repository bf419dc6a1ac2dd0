-- A text that is written part by part behind what a slice holds.
-- Assumes nothing.
use Prim.Native.Nat.{ℕ, ◌+◌, ◌≤◌, ◌<◌}
use mathlib.Core.Path.{◌≡◌, refl, sym, ap, ◌∙◌, subst}
use mathlib.Core.List.{List, [], ◌∷◌, ◌++◌, append_assoc, append-nil}
use native.Mathlib.Omega.{arith}
use lib.ListN.{length, get_or, drop, length-append, drop_of_length-le}
use Rattle.lists.specs.Lists.{cat}
use Rattle.lists.proofs.Rest.{rest_at}
use Rattle.splice.proofs.Laws.{length-stored}
use Rattle.insertion.specs.Append.{Placed}
use Rattle.std.specs.Prelude.{Some}
use Rattle.insertion.proofs.Laws.{appended_none, appended_both}

-- of x, written behind the first u₀ bytes of l₀, all but the rest stands in l, up to u
pub record Writes (x l₀ : List ℕ) (u₀ : ℕ) (rest l : List ℕ) (u : ℕ) : Type 0 where
  pub done : List ℕ
  pub is : done ++ rest ≡ x
  pub placed : Placed done l₀ u₀ u l

module _ {x l₀ : List ℕ} {u₀ : ℕ} where
  -- nothing stands there so far
  pub writes-from : {y : List ℕ} → y ≡ x → u₀ ≤ length l₀ → Writes x l₀ u₀ y l₀ u₀
  writes-from e h = record { done = []; is = e; placed = appended_none l₀ u₀ h }

  pub writes_as : {y z l : List ℕ} {u : ℕ} → z ≡ y → Writes x l₀ u₀ y l u → Writes x l₀ u₀ z l u
  writes_as {l = l} {u} e w = subst (λ (t : List ℕ). Writes x l₀ u₀ t l u) (sym e) w

  -- a part more
  pub writes_more : {l : List ℕ} {u k : ℕ} {l' : List ℕ} (a b : List ℕ) → Writes x l₀ u₀ (a ++ b) l u → Placed a l u k l' → Writes x l₀ u₀ b l' k
  writes_more {l} {u} {k} {l'} a b w p = record {
    done = w.done ++ a;
    is = append_assoc w.done a b ∙ w.is;
    placed = appended_both w.done a l₀ u₀ u l w.placed (Some k) l' p;
  }

  -- nothing is left
  pub writes_end : {l : List ℕ} {u : ℕ} → Writes x l₀ u₀ [] l u → Placed x l₀ u₀ u l
  writes_end {l} {u} w = subst (λ (t : List ℕ). Placed t l₀ u₀ u l) (sym (append-nil w.done) ∙ w.is) w.placed

  -- the last part
  pub writes_last : {a l : List ℕ} {u k : ℕ} {l' : List ℕ} → Writes x l₀ u₀ a l u → Placed a l u k l' → Placed x l₀ u₀ k l'
  writes_last {a} w p = writes_end (writes_more a [] (writes_as (append-nil a) w) p)

  module _ {rest l : List ℕ} {u : ℕ} (w : Writes x l₀ u₀ rest l u) where
    pub writes-size : u + length rest ≡ u₀ + length x
    writes-size = let n : length (w.done ++ rest) ≡ length x = ap length w.is in omega (arith, n, length-append w.done rest, w.placed.end)

    pub writes_kept : length l ≡ length l₀
    writes_kept = ap length w.placed.bytes ∙ length-stored l₀ u₀ w.done (omega (arith, w.placed.end, w.placed.room))

    -- what is left has room where the whole has
    pub rest_room : u₀ + length x ≤ length l₀ → u + length rest ≤ length l
    rest_room h = omega (arith, writes-size, writes_kept)

  -- and so has its first part
  pub part_room : {l : List ℕ} {u : ℕ} (a b : List ℕ) → Writes x l₀ u₀ (a ++ b) l u → u₀ + length x ≤ length l₀ → u + length a ≤ length l
  part_room a b w h = omega (arith, rest_room w h, length-append a b)

  -- a part for each byte of a value
  module _ (f : ℕ → List ℕ) (v : List ℕ) (i : ℕ) {l : List ℕ} {u : ℕ} (w : Writes x l₀ u₀ (cat f (drop i v)) l u) where
    pub byte-here : i < length v → Writes x l₀ u₀ (f (get_or v i 0) ++ cat f (drop (i + 1) v)) l u
    byte-here h = subst (λ (t : List ℕ). Writes x l₀ u₀ (cat f t) l u) (rest_at v i h) w

    pub bytes-end : length v ≤ i → Placed x l₀ u₀ u l
    bytes-end h = writes_end (subst (λ (t : List ℕ). Writes x l₀ u₀ (cat f t) l u) (drop_of_length-le v h) w)

-- a text under another name
pub placed_as : {x y l l' : List ℕ} {u k : ℕ} → x ≡ y → Placed x l u k l' → Placed y l u k l'
placed_as {l = l} {l'} {u} {k} e p = subst (λ (t : List ℕ). Placed t l u k l') e p
