-- A reply as code reads it: its head in three bytes, its texts in the places that code has; and the search for a command.
-- Assumes nothing.
use Prim.Native.Nat.{ℕ, zero, suc, ◌+◌, ◌-◌, ◌≤◌, ◌<◌}
use mathlib.Core.Path.{◌≡◌, refl, sym, ap, ap₂, ◌∙◌}
use mathlib.Core.Bool.{Bool, true, false, ◌&&◌}
use mathlib.Core.List.{List, [], ◌∷◌}
use Rattle.std.specs.Prelude.{Option, None, Some, Result, Ok, Err}
use native.Mathlib.Omega.{arith}
use borrow.Author.Tests.{leb-true, leb-false}
use lib.Dec.{leb, eqb}
use lib.ListN.{length, take, drop, length-drop}
use lib.Seq.{drop-drop, length-take-le}
use Rattle.lists.specs.Lists.{pick}
use Rattle.lists.specs.Bytes.{same_bytes}
use Rattle.lists.specs.Sizes.{most_output}
use Rattle.lists.proofs.Tests.{and_both}
use Rattle.lists.proofs.Moves.{ap_at}
use Rattle.bits.specs.Bits.{number_at}
use Rattle.bits.specs.Fields.{flag_at}
use Rattle.entries.specs.Parse.{Parse, got, bind, keep, many}
use Rattle.entries.proofs.Rows.{through}
use Rattle.entries.proofs.Entries.{kept}
use Rattle.rows.specs.Entry.{head_len, name_len, rest_len, size, name, rest}
use Rattle.rows.specs.Row.{find_in}
use Rattle.rows.specs.declared.Kind.TheVariants as kind
use Rattle.rows.specs.declared.Found.{Found}
use Rattle.rows.proofs.Readers.{Reads, leb-more, short, swap, head_cut, head_whole}
use Rattle.sheet.specs.Sheet.{Reply, Sheet, ok_reply, reply_at, reply_on, one_reply, reply_to}
use Rattle.sheet.proofs.RoundTrip.{reply_sizes}
use Rattle.sheet_check.specs.Replies.{ok_reply_of}

-- ---- one reply

abbrev pub reply_here : List ℕ → Reply
reply_here bs = record { success = flag_at (take 3 bs) 0; command = name kind.Reply bs; output = rest kind.Reply bs }

-- its test, at the front of some bytes
abbrev pub ok_here : List ℕ → Bool
ok_here bs = ok_reply_of (take 3 bs) (name kind.Reply bs) (rest kind.Reply bs)

-- a reply by the lengths in its head
reply_by : (bs head : List ℕ) (k m : ℕ) → 3 ≤ length bs → k ≡ number_at head 1 10 → m ≡ number_at head 11 10
    → let r : Reply = record { success = flag_at head 0; command = take k (drop 3 bs); output = take m (drop (3 + k) bs) } in
    reply_on head (drop 3 bs) ≡ keep (leb (3 + k + m) (length bs) && (eqb (number_at head 21 3) 0 && ok_reply r)) r (drop (3 + k + m) bs)
reply_by bs head k m h e f =
    let r : Reply = record { success = flag_at head 0; command = take k (drop 3 bs); output = take m (drop (3 + k) bs) } in
    let n : ℕ = number_at head 1 10 + number_at head 11 10 in
    let d : drop k (drop 3 bs) ≡ drop (3 + k) bs = drop-drop k 3 bs in
    let q : reply_at head (drop 3 bs) ≡ r =
    ap₂ (λ (i j : ℕ). record { success = flag_at head 0; command = take i (drop 3 bs); output = take j (drop i (drop 3 bs)) }) (sym e) (sym f)
    ∙ ap (λ (x : List ℕ). record { success = flag_at head 0; command = take k (drop 3 bs); output = take m x }) d
    in
    let w : drop n (drop 3 bs) ≡ drop (3 + k + m) bs = drop-drop n 3 bs ∙ ap_at (λ i. drop i bs) (3 + n) (3 + k + m) (omega arith) in
    let t : leb n (length (drop 3 bs)) ≡ leb (3 + k + m) (length bs) = leb-more 3 n (length (drop 3 bs)) (3 + k + m) (length bs) (omega arith) (omega (arith, length-drop 3 bs)) in
    ap (λ (b : Bool). keep b (reply_at head (drop 3 bs)) (drop n (drop 3 bs))) (swap (eqb (number_at head 21 3) 0) (leb n (length (drop 3 bs))) (ok_reply (reply_at head (drop 3 bs))))
    ∙ ap (λ (b : Bool). keep (b && (eqb (number_at head 21 3) 0 && ok_reply (reply_at head (drop 3 bs)))) (reply_at head (drop 3 bs)) (drop n (drop 3 bs))) t
    ∙ ap₂ (λ (x : Reply) (y : List ℕ). keep (leb (3 + k + m) (length bs) && (eqb (number_at head 21 3) 0 && ok_reply x)) x y) q w

pub reply_reads : Reads Reply kind.Reply one_reply ok_here reply_here
unfolding name_len rest_len
reply_reads = record { is = at }
  where
    at : (bs : List ℕ) → one_reply bs ≡ keep (leb (size kind.Reply bs) (length bs) && ok_here bs) (reply_here bs) (drop (size kind.Reply bs) bs)
    at bs = go (leb 3 (length bs)) refl
      where
        go : (t : Bool) → leb 3 (length bs) ≡ t → one_reply bs ≡ keep (leb (size kind.Reply bs) (length bs) && ok_here bs) (reply_here bs) (drop (size kind.Reply bs) bs)
        go true h =
            ap (λ (x : Parse (List ℕ)). bind x reply_on) (head_whole 3 bs (leb-true 3 (length bs) h))
            ∙ reply_by bs (take 3 bs) (number_at (take 3 bs) 1 10) (number_at (take 3 bs) 11 10) (leb-true 3 (length bs) h) refl refl
        go false h =
            ap (λ (x : Parse (List ℕ)). bind x reply_on) (head_cut 3 bs (leb-false 3 (length bs) h))
            ∙ short (size kind.Reply bs) (length bs) (ok_here bs) (reply_here bs) (drop (size kind.Reply bs) bs) (omega (arith, leb-false 3 (length bs) h))

-- a reply that was read: it stands there, it is sound, and what follows it
pub reply_got : (bs : List ℕ) (a : Reply) (r : List ℕ) → one_reply bs ≡ got a r
    → (size kind.Reply bs ≤ length bs) × (ok_reply (reply_here bs) ≡ true) × (reply_here bs ≡ a) × (drop (size kind.Reply bs) bs ≡ r)
reply_got bs a r e =
    let (t, x, y) = kept (leb (size kind.Reply bs) (length bs) && ok_here bs) (reply_here bs) a (drop (size kind.Reply bs) bs) r (sym (reply_reads.is bs) ∙ e) in
    let (h, o) = and_both (leb (size kind.Reply bs) (length bs)) (ok_here bs) t in
    (leb-true (size kind.Reply bs) (length bs) h, (and_both (eqb (number_at (take 3 bs) 21 3) 0) (ok_reply (reply_here bs)) o).1, x, y)

-- ---- the search

-- a reply at a place of the sheet, with its output's place and length
pub record Here (l : List ℕ) (o : Option Reply) (f : Found) : Type 0 where
  pub is : o ≡ Some (reply_here (drop f.at l))
  pub sound : ok_reply (reply_here (drop f.at l)) ≡ true
  pub head : f.at + 3 ≤ length l
  pub output : rest kind.Reply (drop f.at l) ≡ take f.len (drop f.value l)
  pub within : f.value + f.len ≤ length l
  pub few : f.len ≤ most_output

abbrev pub Finds : List ℕ → Result Found ℕ → Option Reply → Type 0
Finds l (Ok f) o = Here l o f
Finds l (Err p) o = o ≡ None

finds_pick : (l : List ℕ) (t : Bool) (f g : Result Found ℕ) (o q : Option Reply) → Finds l f o → Finds l g q → Finds l (pick t f g) (pick t o q)
finds_pick l true f g o q h k = h
finds_pick l false f g o q h k = k

here_at : (l : List ℕ) (p : ℕ) → size kind.Reply (drop p l) ≤ length (drop p l) → ok_reply (reply_here (drop p l)) ≡ true
    → Here l (Some (reply_here (drop p l))) (record { at = p; value = p + head_len kind.Reply + name_len kind.Reply (drop p l); len = rest_len kind.Reply (drop p l) })
here_at l p h o =
    let m = name_len kind.Reply (drop p l) in
    let k = rest_len kind.Reply (drop p l) in
    let e : length (rest kind.Reply (drop p l)) ≡ k = length-take-le k (drop (3 + m) (drop p l)) (omega (arith, length-drop (3 + m) (drop p l))) in
    record {
      is = refl;
      sound = o;
      head = omega (arith, length-drop p l);
      output = ap (take k) (drop-drop (3 + m) p l ∙ ap_at (λ i. drop i l) (p + (3 + m)) (p + 3 + m) (omega arith));
      within = omega (arith, length-drop p l);
      few = omega (arith, (reply_sizes (reply_here (drop p l)) o).1);
    }

-- the search in the bytes finds the reply that the definition finds among those that were read
pub find_reply : (l x : List ℕ) (n at : ℕ) (rs : Sheet) (r : List ℕ) → many one_reply n (drop at l) ≡ got rs r
    → Finds l (find_in kind.Reply x at n (drop at l)) (reply_to x rs)
unfolding reply_to
find_reply l x zero at rs r e = let q : rs ≡ [] = cc in rw q
find_reply l x (suc n) at rs r e =
    through (one_reply (drop at l)) _ rs r e λ a q p₁ e₁.
    through (many one_reply n q) _ rs r e₁ λ qs q' p₂ e₂.
    let (h, o, y, z) = reply_got (drop at l) a q p₁ in
    let j : reply_here (drop at l) ∷ qs ≡ rs = cc in
    let s = size kind.Reply (drop at l) in
    let d : drop (at + s) l ≡ drop s (drop at l) = sym (drop-drop s at l) in
    let i : Finds l (find_in kind.Reply x (at + s) n (drop (at + s) l)) (reply_to x qs) = find_reply l x n (at + s) qs q' (ap (many one_reply n) (d ∙ z) ∙ p₂) in
    rw (← j)
    (finds_pick l (same_bytes (name kind.Reply (drop at l)) x) _ _ _ _ (here_at l at h o) (rw d at i))
