-- What the stages of the check say of a whole sheet, and what a sound one has.
-- Assumes nothing.
use Prim.Native.Nat.{ℕ, zero, suc, ◌+◌, ◌-◌, ◌≤◌, ◌<◌}
use mathlib.Core.Path.{◌≡◌, refl, sym, ap, ap₂, ◌∙◌}
use mathlib.Core.Bool.{Bool, true, false, ◌&&◌}
use mathlib.Core.List.{List, [], ◌∷◌}
use Rattle.std.specs.Prelude.{Option, None, Some, Ok, Err}
use native.Mathlib.Nat.{not-suc-le-zero}
use native.Mathlib.Omega.{arith}
use borrow.Author.Tests.{le-leb, lt-leb, leb-true, leb-false}
use lib.Dec.{leb}
use lib.ListN.{length, take, drop, get_or}
use Rattle.lists.specs.Lists.{is_some}
use Rattle.lists.specs.Bytes.{distinct}
use Rattle.lists.specs.Sizes.{most_sheet, most_replies}
use Rattle.bits.specs.Fields.{flag_at}
use Rattle.entries.specs.Parse.{Parse, got, bad, many}
use Rattle.entries.proofs.Rows.{many-kept}
use Rattle.rows.specs.Row.{Row, names, find_in, end_of}
use Rattle.rows.specs.declared.Kind.TheVariants as kind
use Rattle.rows.specs.declared.Found.{Found}
use Rattle.rows.proofs.Readers.{many-row, many-names, end_at, end-bad}
use Rattle.sheet.specs.Sheet.{Reply, Sheet, one_reply, commands_of, whole, ended, decode, reply_to}
use Rattle.sheet_check.specs.Replies.{AnswersTo}
use Rattle.sheet_check.proofs.Replies.{reply_reads, reply_here, Here, Finds, find_reply}

-- ---- by its length

pub sheet_empty : (l : List ℕ) → length l < 1 → decode l ≡ None
unfolding decode
sheet_empty [] h = refl
sheet_empty (b ∷ bs) h = absurd (omega arith)

pub sheet_long : (l : List ℕ) → most_sheet < length l → decode l ≡ None
unfolding decode
sheet_long [] h = refl
sheet_long (b ∷ bs) h = rw (lt-leb (length (b ∷ bs)) most_sheet h, decode)

-- the replies of a sheet that is not too long
abbrev pub replies_of : List ℕ → Parse Sheet
replies_of l = many one_reply (get_or l 0 0) (drop 1 l)

pub sheet_read : (l : List ℕ) → 1 ≤ length l → length l ≤ most_sheet → decode l ≡ ended (replies_of l)
unfolding decode
sheet_read [] h k = absurd (not-suc-le-zero h)
sheet_read (b ∷ bs) h k = rw (le-leb (length (b ∷ bs)) most_sheet k, decode)

-- ---- by its replies

-- as many as the first byte says
counted : (l : List ℕ) (rs : Sheet) (r : List ℕ) → replies_of l ≡ got rs r → length rs ≡ get_or l 0 0
counted l rs r e = (many-kept (λ _. true) one_reply (λ bs a q f. refl) (get_or l 0 0) (drop 1 l) rs r e).1

module _ (l : List ℕ) (h : 1 ≤ length l) (k : length l ≤ most_sheet) where
  pub sheet_many : most_replies < get_or l 0 0 → decode l ≡ None
  sheet_many m = sheet_read l h k ∙ by (replies_of l) refl
    where
      by : (p : Parse Sheet) → replies_of l ≡ p → ended p ≡ None
      by bad e = refl
      by (got rs (b ∷ bs)) e = refl
      by (got rs []) e = rw (lt-leb (length rs) most_replies (omega (arith, counted l rs [] e)), ended)

  pub sheet_bad : end_of (length l) (replies_of l) ≡ None → decode l ≡ None
  sheet_bad e = sheet_read l h k ∙ rw (end-bad (length l) (replies_of l) e)

  -- bytes follow the last reply
  pub sheet_more : (p : ℕ) → end_of (length l) (replies_of l) ≡ Some p → p < length l → decode l ≡ None
  sheet_more p e m = end_at (length l) p (replies_of l) e λ rs r q i. sheet_read l h k ∙ ap ended q ∙ by rs r i
    where
      by : (rs : Sheet) (r : List ℕ) → p ≡ length l - length r → ended (got rs r) ≡ None
      by rs [] i = absurd (omega arith)
      by rs (b ∷ bs) i = refl

  -- none do: the names decide
  pub sheet_judged : (p : ℕ) → get_or l 0 0 ≤ most_replies → end_of (length l) (replies_of l) ≡ Some p → length l ≤ p
      → is_some (decode l) ≡ distinct (names kind.Reply (get_or l 0 0) (drop 1 l))
  sheet_judged p m e o = end_at (length l) p (replies_of l) e λ rs r q i. ap is_some (sheet_read l h k ∙ ap ended q) ∙ by rs r q i
    where
      named : (rs : Sheet) (r : List ℕ) → replies_of l ≡ got rs r → names kind.Reply (get_or l 0 0) (drop 1 l) ≡ commands_of rs
      named rs r q = many-names reply_reads (λ (x : Reply). x.command) (λ bs. refl) (get_or l 0 0) (drop 1 l) rs r q

      told : (t : Bool) (rs : Sheet) → is_some {A = Sheet} (elim t [ true ↦ Some rs | false ↦ None ]) ≡ t
      told true rs = refl
      told false rs = refl

      by : (rs : Sheet) (r : List ℕ) → replies_of l ≡ got rs r → p ≡ length l - length r → is_some (ended (got rs r)) ≡ distinct (names kind.Reply (get_or l 0 0) (drop 1 l))
      by rs (b ∷ bs) q i = absurd (omega arith)
      by rs [] q i = told (whole rs) rs ∙ ap₂ ◌&&◌ (le-leb (length rs) most_replies (omega (arith, counted l rs [] q))) (ap distinct (sym (named rs [] q)))

-- its replies stand in the bytes
pub sheet_row : (l : List ℕ) (p : ℕ) → end_of (length l) (replies_of l) ≡ Some p → Row kind.Reply (get_or l 0 0) (drop 1 l)
sheet_row l p e = end_at (length l) p (replies_of l) e λ rs r q i. many-row reply_reads (get_or l 0 0) (drop 1 l) rs r q

-- ---- a sound sheet

-- it has a first byte, and its replies were read behind it
pub sound_read : (l : List ℕ) (a : Sheet) → decode l ≡ Some a → (1 ≤ length l) × (replies_of l ≡ got a [])
unfolding decode
sound_read [] a e = let z : ◌≡◌ {A = ℕ} 0 1 = cc in absurd (omega arith)
sound_read (b ∷ bs) a e = (omega arith, at (leb (length (b ∷ bs)) most_sheet) refl)
  where
    none_left : (p : Parse Sheet) → ended p ≡ Some a → p ≡ got a []
    none_left bad f = let z : ◌≡◌ {A = ℕ} 0 1 = cc in absurd (omega arith)
    none_left (got rs (c ∷ cs)) f = let z : ◌≡◌ {A = ℕ} 0 1 = cc in absurd (omega arith)
    none_left (got rs []) f = by (whole rs) refl f
      where
        by : (t : Bool) → whole rs ≡ t → ended (got rs []) ≡ Some a → got rs [] ≡ got a []
        by true h f = let q : Some rs ≡ Some a = rw (h, ended) at f in cc
        by false h f = let q : None ≡ Some a = rw (h, ended) at f in let z : ◌≡◌ {A = ℕ} 0 1 = cc in absurd (omega arith)

    at : (t : Bool) → leb (length (b ∷ bs)) most_sheet ≡ t → many one_reply b bs ≡ got a []
    at true h = none_left (many one_reply b bs) (rw (h, decode) at e)
    at false h = let q : None ≡ Some a = rw (h, decode) at e in let z : ◌≡◌ {A = ℕ} 0 1 = cc in absurd (omega arith)

pub sound-some : {A : Type 0} (o : Option A) → is_some o ≡ true → (a : A) × (o ≡ Some a)
sound-some None e = let z : ◌≡◌ {A = ℕ} 0 1 = cc in absurd (omega arith)
sound-some (Some a) e = (a, refl)

pub sound-row : (l : List ℕ) → is_some (decode l) ≡ true → (1 ≤ length l) × Row kind.Reply (get_or l 0 0) (drop 1 l)
sound-row l e =
    let (a, d) = sound-some (decode l) e in
    let (h, q) = sound_read l a d in
    (h, many-row reply_reads (get_or l 0 0) (drop 1 l) a [] q)

-- the search on it
module _ (l c : List ℕ) where
  finds : (a : Sheet) → decode l ≡ Some a → Finds l (find_in kind.Reply c 1 (get_or l 0 0) (drop 1 l)) (reply_to c a)
  finds a e = find_reply l c (get_or l 0 0) 1 a [] (sound_read l a e).1

  pub head_within : (f : Found) → is_some (decode l) ≡ true → find_in kind.Reply c 1 (get_or l 0 0) (drop 1 l) ≡ Ok f → f.at + 3 ≤ length l
  head_within f s e =
      let (a, d) = sound-some (decode l) s in
      let h : Here l (reply_to c a) f = rw e at (finds a d) in
      h.head

  pub says_at : (good : Bool) (f : Found) → find_in kind.Reply c 1 (get_or l 0 0) (drop 1 l) ≡ Ok f → good ≡ flag_at (take 3 (drop f.at l)) 0 → AnswersTo c l (Some (record { success = good; start = f.value; len = f.len }))
  says_at good f e g a d =
      let h : Here l (reply_to c a) f = rw e at (finds a d) in
      record { reply = reply_here (drop f.at l); is = h.is; sound = h.sound; success = sym g; output = h.output; within = h.within; few = h.few }

  pub says_missing : (p : ℕ) → find_in kind.Reply c 1 (get_or l 0 0) (drop 1 l) ≡ Err p → AnswersTo c l None
  says_missing p e a d = rw e at (finds a d)
