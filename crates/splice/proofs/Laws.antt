-- Laws of the moves: one after another, part by part, and on a slice that is given by its parts with zeros behind them.
-- Assumes nothing.
use Prim.Native.Nat.{ℕ, ◌+◌, ◌-◌, ◌≤◌, ◌<◌}
use mathlib.Core.Path.{◌≡◌, refl, sym, ap, ap₂, ◌∙◌}
use mathlib.Core.List.{List, [], ◌∷◌, ◌++◌, append_assoc}
use native.Mathlib.Numerals.{add-one}
use native.Mathlib.Omega.{arith}
use lib.ListN.{length, take, drop, set, replicate, length-append, length-take, length-drop, length-replicate, replicate-append-replicate, take-append-drop}
use lib.Seq.{take_at, drop_at, take-take, take-add, drop-drop, drop-append-add, set_split, take-append-le, length-take-le}
use Rattle.lists.proofs.Moves.{ap_at, part-whole, part_at, part-front, length_part, drop_past, drop-replicate}
use Rattle.lists.specs.Bytes.{part}
use Rattle.splice.specs.Moves.{stored, opened, inserted, removed, shifted, replaced, padded}

-- ---- parts

-- two parts side by side are one
pub part_both : (t : List ℕ) (a b c : ℕ) → a ≤ b → b ≤ c → part t a b ++ part t b c ≡ part t a c
part_both t a b c h k =
    ap (λ (l : List ℕ). part t a b ++ take (c - b) l) (sym (drop-drop (b - a) a t ∙ ap_at (λ i. drop i t) (a + (b - a)) b (omega arith)))
    ∙ sym (take-add (b - a) (c - b) (drop a t))
    ∙ ap_at (λ i. take i (drop a t)) (b - a + (c - b)) (c - a) (omega arith)

-- what stands before m does not depend on what follows
part-before : (t r : List ℕ) (a b m : ℕ) → a ≤ b → b ≤ m → m ≤ length t → part (take m t ++ r) a b ≡ part t a b
part-before t r a b m h k l =
    let w : a + (b - a) ≤ length (take m t) = omega (arith, length-take-le m t l) in
    part-front (take m t) r a (b - a) w
    ∙ sym (part-front (take m t) (drop m t) a (b - a) w)
    ∙ ap (λ (x : List ℕ). part x a b) (take-append-drop m t)

-- what was stored at the start stands there
pub stored-front : (t x c : List ℕ) (n : ℕ) → c ≡ stored t 0 x → length x ≡ n → take n c ≡ x
stored-front t x c n e l = ap (take n) e ∙ take_at x (drop (0 + length x) t) n l

-- ---- one store after another

pub set-stored : (t : List ℕ) (at v : ℕ) → at < length t → set t at v ≡ stored t at (v ∷ [])
set-stored t at v h = set_split t at v h ∙ ap (λ (i : ℕ). take at t ++ (v ∷ drop i t)) (sym (add-one at))

pub length-stored : (t : List ℕ) (at : ℕ) (x : List ℕ) → at + length x ≤ length t → length (stored t at x) ≡ length t
length-stored t at x h = simp (length-append, length-take, length-drop) (omega arith)

-- two stores side by side are one
pub stored-stored : (t : List ℕ) (at : ℕ) (x y : List ℕ) → at + length x + length y ≤ length t
    → stored (stored t at x) (at + length x) y ≡ stored t at (x ++ y)
stored-stored t at x y h =
    let a : List ℕ = take at t in
    let d : List ℕ = drop (at + length x) t in
    let la : length a ≡ at = length-take-le at t (omega arith) in
    let n : length (a ++ x) ≡ at + length x = length-append a x ∙ ap (λ (i : ℕ). i + length x) la in
    let s : a ++ (x ++ d) ≡ (a ++ x) ++ d = sym (append_assoc a x d) in
    let t₁ : take (at + length x) (a ++ (x ++ d)) ≡ a ++ x = ap (take (at + length x)) s ∙ take_at (a ++ x) d (at + length x) n in
    let t₂ : drop (at + length x + length y) (a ++ (x ++ d)) ≡ drop (at + length (x ++ y)) t =
    sym (drop-drop (length y) (at + length x) (a ++ (x ++ d)))
    ∙ ap (drop (length y)) (drop_past a x d at (at + length x) la refl)
    ∙ drop-drop (length y) (at + length x) t
    ∙ ap_at (λ i. drop i t) (at + length x + length y) (at + length (x ++ y)) (omega (arith, length-append x y))
    in
    ap₂ (λ (u v : List ℕ). u ++ (y ++ v)) t₁ t₂ ∙ simp append_assoc

-- ---- a store into a gap

module _ (t : List ℕ) (at : ℕ) (x : List ℕ) (h : at + length x ≤ length t) where
  -- what stood where x comes does not matter
  pub stored_over : (r : List ℕ) → stored (take (at + length x) t ++ r) at x ≡ take at t ++ (x ++ r)
  stored_over r =
      let f : List ℕ = take (at + length x) t in
      let lf : length f ≡ at + length x = length-take-le (at + length x) t h in
      let t₁ : take at (f ++ r) ≡ take at t = take-append-le at f r (omega arith) ∙ take-take at (at + length x) t (omega arith) in
      ap₂ (λ (u v : List ℕ). u ++ (x ++ v)) t₁ (drop_at f r (at + length x) lf)

  pub stored-opened : (used : ℕ) → stored (opened t at used (length x)) at x ≡ inserted t at used x
  stored-opened used = stored_over (part t at used ++ drop (used + length x) t)

  pub stored-shifted : (n used : ℕ) → stored (shifted t (at + n) (at + length x) used) at x ≡ replaced t at n used x
  stored-shifted n used =
      let e : at + n - (at + length x) ≡ n - length x = omega arith in
      let f : at + length x - (at + n) ≡ length x - n = omega arith in
      stored_over (part t (at + n) used ++ (replicate (at + n - (at + length x)) 0 ++ drop (used + (at + length x - (at + n))) t))
      ∙ ap₂ (λ (i j : ℕ). take at t ++ (x ++ (part t (at + n) used ++ (replicate i 0 ++ drop (used + j) t)))) e f

-- ---- a move part by part

-- from the last part on
pub opened-more : (t : List ℕ) (a k used n : ℕ) → a ≤ k → k ≤ used → used + n ≤ length t
    → stored (opened t k used n) (a + n) (part (opened t k used n) a k) ≡ opened t a used n
opened-more t a k used n h l m =
    let x : List ℕ = part t a k in
    let r : List ℕ = part t k used ++ drop (used + n) t in
    let lx : length x ≡ k - a = length_part t a k (omega arith) in
    ap (stored (take (k + n) t ++ r) (a + n)) (part-before t r a k (k + n) h (omega arith) (omega arith))
    ∙ ap_at (λ i. stored (take i t ++ r) (a + n) x) (k + n) (a + n + length x) (omega arith)
    ∙ stored_over t (a + n) x (omega arith) r
    ∙ ap (λ (l : List ℕ). take (a + n) t ++ l) (sym (append_assoc x (part t k used) (drop (used + n) t)) ∙ ap (λ (l : List ℕ). l ++ drop (used + n) t) (part_both t a k used h l))

-- what stands before k - n when the part from at + n up to k has been moved
abbrev pub moved : List ℕ → ℕ → ℕ → ℕ → List ℕ
moved t at n k = take at t ++ part t (at + n) k

-- from the first part on
module _ (t : List ℕ) (at n : ℕ) where
  pub length_moved : (k : ℕ) → at + n ≤ k → k ≤ length t → length (moved t at n k) ≡ k - n
  length_moved k h l =
      length-append (take at t) (part t (at + n) k)
      ∙ omega (arith, length-take-le at t (omega arith), length_part t (at + n) k l)

  pub moved_more : (u : List ℕ) (k e : ℕ) → at + n ≤ k → k ≤ e → e ≤ length t → u ≡ moved t at n k ++ drop (k - n) t
      → stored u (k - n) (part u k e) ≡ moved t at n e ++ drop (e - n) t
  moved_more u k e h l m w =
      let p : List ℕ = moved t at n k in
      let r : List ℕ = drop (k - n) t in
      let x : List ℕ = part t k e in
      let lp : length p ≡ k - n = length_moved k h (omega arith) in
      let lx : length x ≡ e - k = length_part t k e m in
      let read : part (p ++ r) k e ≡ x =
      ap_at (λ i. take (e - k) (drop i (p ++ r))) k (length p + n) (omega arith)
      ∙ ap (take (e - k)) (drop-append-add p r n ∙ drop-drop n (k - n) t ∙ ap_at (λ i. drop i t) (k - n + n) k (omega arith))
      in
      let rest : drop (k - n + length x) (p ++ r) ≡ drop (e - n) t =
      ap_at (λ i. drop i (p ++ r)) (k - n + length x) (length p + length x) (omega arith)
      ∙ drop-append-add p r (length x)
      ∙ drop-drop (length x) (k - n) t
      ∙ ap_at (λ i. drop i t) (k - n + length x) (e - n) (omega arith)
      in
      ap (λ (l : List ℕ). stored l (k - n) (part l k e)) w
      ∙ ap (stored (p ++ r) (k - n)) read
      ∙ ap₂ (λ (a b : List ℕ). a ++ (x ++ b)) (take_at p r (k - n) lp) rest
      ∙ sym (append_assoc p x (drop (e - n) t))
      ∙ ap (λ (l : List ℕ). l ++ drop (e - n) t) (append_assoc (take at t) (part t (at + n) k) x ∙ ap (λ (l : List ℕ). take at t ++ l) (part_both t (at + n) k e h l))

-- ---- a shift is one of the three

module _ (t : List ℕ) (a b used : ℕ) where
  pub opened-shifted : a ≤ b → opened t a used (b - a) ≡ shifted t a b used
  opened-shifted h =
      let z : a - b ≡ 0 = omega arith in
      let e : a + (b - a) ≡ b = omega arith in
      rw (z, e)

  pub removed-shifted : b ≤ a → removed t b used (a - b) ≡ shifted t a b used
  removed-shifted h =
      let e : b + (a - b) ≡ a = omega arith in
      rw e (ap_at (λ i. take b t ++ (part t a used ++ (replicate (a - b) 0 ++ drop i t))) used (used + (b - a)) (omega arith))

  pub same-shifted : a ≡ b → a ≤ used → t ≡ shifted t a b used
  same-shifted e h =
      let z : a - b ≡ 0 = omega arith in
      let f : used + (b - a) ≡ used = omega arith in
      rw (z, f, ← e) (sym (part-whole t a used h))

-- ---- by parts: p, then what is taken out, then q, then zeros

module _ (p g q : List ℕ) (m at n used : ℕ) (t : List ℕ) (w : t ≡ p ++ (g ++ (q ++ replicate m 0))) (lp : length p ≡ at) (lg : length g ≡ n) (lq : at + n + length q ≡ used) where
  front : take at t ≡ p
  front = ap (take at) w ∙ take_at p (g ++ (q ++ replicate m 0)) at lp

  middle : part t (at + n) used ≡ q
  middle =
      let l : length (p ++ g) ≡ at + n = length-append p g ∙ omega arith in
      ap (λ (l : List ℕ). part l (at + n) used) (w ∙ sym (append_assoc p g (q ++ replicate m 0)))
      ∙ part_at (p ++ g) q (replicate m 0) (at + n) used l lq

  back : (k : ℕ) → drop (used + k) t ≡ replicate (m - k) 0
  back k =
      let l : length (p ++ g) ≡ at + n = length-append p g ∙ omega arith in
      sym (drop-drop k used t)
      ∙ ap (drop k) (ap (drop used) (w ∙ sym (append_assoc p g (q ++ replicate m 0))) ∙ drop_past (p ++ g) q (replicate m 0) (at + n) used l lq)
      ∙ drop-replicate k m 0

  -- y in the place of g
  pub replace_law : (y : List ℕ) → replaced t at n used y ≡ p ++ (y ++ (q ++ replicate (m + n - length y) 0))
  replace_law y =
      let z : replicate (n - length y) 0 ++ drop (used + (length y - n)) t ≡ replicate (m + n - length y) 0 =
      ap (λ (l : List ℕ). replicate (n - length y) 0 ++ l) (back (length y - n))
      ∙ replicate-append-replicate (n - length y) (m - (length y - n)) 0
      ∙ ap_at (λ i. replicate i 0) (n - length y + (m - (length y - n))) (m + n - length y) (omega arith)
      in
      ap₂ (λ (u v : List ℕ). u ++ (y ++ v)) front (ap₂ (λ (u v : List ℕ). u ++ v) middle z)

  -- g taken out
  pub remove_law : removed t at used n ≡ p ++ (q ++ replicate (m + n) 0)
  remove_law =
      let z : replicate n 0 ++ drop used t ≡ replicate (m + n) 0 =
      ap_at (λ i. replicate n 0 ++ drop i t) used (used + 0) (omega arith)
      ∙ ap (λ (l : List ℕ). replicate n 0 ++ l) (back 0)
      ∙ replicate-append-replicate n (m - 0) 0
      ∙ ap_at (λ i. replicate i 0) (n + (m - 0)) (m + n) (omega arith)
      in
      ap₂ (λ (u v : List ℕ). u ++ v) front (ap₂ (λ (u v : List ℕ). u ++ v) middle z)

  -- y over g, which has the same length
  pub store_law : (y : List ℕ) → length y ≡ n → stored t at y ≡ p ++ (y ++ (q ++ replicate m 0))
  store_law y l =
      let e : at + length y ≡ at + n = omega arith in
      ap₂ (λ (u v : List ℕ). u ++ (y ++ v)) front (ap (λ (i : ℕ). drop i t) e ∙ ap (drop (at + n)) w ∙ drop_past p g (q ++ replicate m 0) at (at + n) lp (omega arith))

module _ (p q : List ℕ) (m at used : ℕ) (t : List ℕ) (w : t ≡ p ++ (q ++ replicate m 0)) (lp : length p ≡ at) (lq : at + length q ≡ used) where
  -- x put between p and q
  pub insert_law : (x : List ℕ) → inserted t at used x ≡ p ++ (x ++ (q ++ replicate (m - length x) 0))
  insert_law x =
      let l : at + 0 + length q ≡ used = omega arith in
      let f : take at t ≡ p = front p [] q m at 0 used t w lp refl l in
      let g : part t at used ≡ q = ap_at (λ i. part t i used) at (at + 0) (omega arith) ∙ middle p [] q m at 0 used t w lp refl l in
      ap₂ (λ (u v : List ℕ). u ++ (x ++ v)) f (ap₂ (λ (u v : List ℕ). u ++ v) g (back p [] q m at 0 used t w lp refl l (length x)))

-- ---- the same of bytes and then zeros up to a length

three : (p x q z : List ℕ) → p ++ (x ++ (q ++ z)) ≡ (p ++ (x ++ q)) ++ z
three p x q z = simp append_assoc

-- how many zeros follow is the length less that of the bytes
padded_at : (n k : ℕ) (x : List ℕ) → k ≡ n - length x → x ++ replicate k 0 ≡ padded n x
padded_at n k x e = ap (λ (i : ℕ). x ++ replicate i 0) e

pub length-padded : (n : ℕ) (x : List ℕ) → length x ≤ n → length (padded n x) ≡ n
length-padded n x h = simp (length-append, length-replicate) (omega arith)

pub clear_padded : (n : ℕ) → replicate n 0 ≡ padded n []
clear_padded n = ap_at (λ i. replicate i 0) n (n - 0) (omega arith)

-- x behind p, where zeros were
pub append-padded : (p x : List ℕ) (n at : ℕ) (t : List ℕ) → t ≡ padded n p → length p ≡ at → stored t at x ≡ padded n (p ++ x)
append-padded p x n at t w lp =
    let m : ℕ = n - length p in
    let z : drop (at + length x) t ≡ replicate (m - length x) 0 =
    sym (drop-drop (length x) at t)
    ∙ ap (drop (length x)) (ap (drop at) w ∙ drop_at p (replicate m 0) at lp)
    ∙ drop-replicate (length x) m 0
    in
    ap₂ (λ (u v : List ℕ). u ++ (x ++ v)) (ap (take at) w ∙ take_at p (replicate m 0) at lp) z
    ∙ sym (append_assoc p x (replicate (m - length x) 0))
    ∙ padded_at n (m - length x) (p ++ x) (omega (arith, length-append p x))

module _ (p q : List ℕ) (n at used : ℕ) (t : List ℕ) (w : t ≡ padded n (p ++ q)) (lp : length p ≡ at) (lq : at + length q ≡ used) where
  -- x put between p and q
  pub insert-padded : (x : List ℕ) → inserted t at used x ≡ padded n (p ++ (x ++ q))
  insert-padded x =
      let m : ℕ = n - length (p ++ q) in
      insert_law p q m at used t (w ∙ append_assoc p q (replicate m 0)) lp lq x
      ∙ three p x q (replicate (m - length x) 0)
      ∙ padded_at n (m - length x) (p ++ (x ++ q)) (omega (arith, length-append p q, length-append p (x ++ q), length-append x q))

module _ (p g q : List ℕ) (n at k used : ℕ) (t : List ℕ) (w : t ≡ padded n (p ++ (g ++ q))) (lp : length p ≡ at) (lg : length g ≡ k) (lq : at + k + length q ≡ used) where
  parts : t ≡ p ++ (g ++ (q ++ replicate (n - length (p ++ (g ++ q))) 0))
  parts = w ∙ sym (three p g q (replicate (n - length (p ++ (g ++ q))) 0))

  size : length (p ++ (g ++ q)) ≡ used
  size = length-append p (g ++ q) ∙ omega (arith, length-append g q)

  -- g taken out
  pub remove-padded : used ≤ n → removed t at used k ≡ padded n (p ++ q)
  remove-padded h =
      let m : ℕ = n - length (p ++ (g ++ q)) in
      remove_law p g q m at k used t parts lp lg lq
      ∙ sym (append_assoc p q (replicate (m + k) 0))
      ∙ padded_at n (m + k) (p ++ q) (omega (arith, size, length-append p q))

  -- y in the place of g
  pub replace_padded : used ≤ n → (y : List ℕ) → replaced t at k used y ≡ padded n (p ++ (y ++ q))
  replace_padded h y =
      let m : ℕ = n - length (p ++ (g ++ q)) in
      replace_law p g q m at k used t parts lp lg lq y
      ∙ three p y q (replicate (m + k - length y) 0)
      ∙ padded_at n (m + k - length y) (p ++ (y ++ q)) (omega (arith, size, length-append p (y ++ q), length-append y q))

  -- y over g, which has the same length
  pub store_padded : (y : List ℕ) → length y ≡ k → stored t at y ≡ padded n (p ++ (y ++ q))
  store_padded y l =
      let m : ℕ = n - length (p ++ (g ++ q)) in
      store_law p g q m at k used t parts lp lg lq y l
      ∙ three p y q (replicate m 0)
      ∙ padded_at n m (p ++ (y ++ q)) (omega (arith, size, length-append p (y ++ q), length-append y q))
