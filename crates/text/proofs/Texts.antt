-- The rules of an accepted text, and of a text that another follows.
-- Assumes nothing.
use Prim.Native.Nat.{ℕ, ◌+◌, ◌≤◌}
use mathlib.Core.Path.{◌≡◌, refl, sym, ◌∙◌, ap, subst}
use mathlib.Core.Bool.{Bool, true, false}
use mathlib.Core.List.{List, [], ◌∷◌, ◌++◌, map, map-append, append-nil}
use Rattle.std.specs.Prelude.{None}
use native.Mathlib.Nat.{add-zero}
use native.Mathlib.Omega.{arith}
use lib.Dec.{T, leb, leb→le}
use lib.ListN.{length}
use borrow.Author.Tests.{le-leb}
use Rattle.lists.specs.Lists.{All}
use Rattle.lists.specs.Checked.{ok, ◌>>=◌, ◌>>◌, require, Holds, Placed, line, line_of, in_place}
use Rattle.lists.specs.Refusal.{text_long}
use Rattle.lists.specs.Sizes.{most_text, most_rules}
use Rattle.lists.proofs.Lists.{All-map}
use Rattle.lists.proofs.Checked.{holds-bind, holds_at, holds-seq}
use Rattle.text.specs.Lines.{stage_of, unjoined, numbered, lines, newlines}
use Rattle.text.specs.Engine.{Reader, Engine, LineRead, skip, went}
use Rattle.text.specs.Reading.{collect, rule_count, settle, read_lent, reads, read_text}
use Rattle.text.specs.Rules.{rules_in, rules_of}
use Rattle.text.specs.Joined.{EndsWhole}
use Rattle.text.specs.Laws.{Laws}
use Rattle.text.proofs.Lines.{shift, numbered-lines, whole, lines-alone, lines-before}
use Rattle.text.proofs.Collect.{Faultless, collect-ok, Collected, collected, faultless_append, faultless_split, faultless_shift, faultless_unshift, count-append, count-shift, rules-append, rules-shift, rules-lines}
use Rattle.text.proofs.Settle.{Settled, settle-ok, settled}

-- what is done to lines and then moved is moved and then done
in_place-shift : {A B : Type 0} (f : A → B) (k : ℕ) (ps : List (Placed A)) → map (in_place f) (shift k ps) ≡ shift k (map (in_place f) ps)
in_place-shift f k [] = refl
in_place-shift {A} {B} f k (line n a ∷ ps) = ap (λ (qs : List (Placed B)). line (k + n) (f a) ∷ qs) (in_place-shift f k ps)

in_place-lines : {A B : Type 0} (f : A → B) (P : ℕ → Type 0) (ps : List (Placed A)) → All (λ (p : Placed A). P (line_of p)) ps → All (λ (p : Placed B). P (line_of p)) (map (in_place f) ps)
in_place-lines f P [] h = tt
in_place-lines f P (line n a ∷ ps) (h, hs) = (h, in_place-lines f P ps hs)

-- an engine that only reads, for laws of reading
abbrev pub reading_of : Reader → Engine
reading_of R =
    record {
      reader = R;
      Device = Unit {0};
      State = Unit {0};
      device = λ bs. None;
      decode = λ d bs. None;
      encode = λ s. [];
      step = λ d r s. ok (went s true);
      tried = λ d r s. 0;
    }

module _ (E : Engine) where
  -- what makes a text accepted
  pub record Parts (t : List ℕ) : Type 0 where
    pub short : length t ≤ most_text
    pub faultless : Faultless (reads E.reader t)
    pub few : rule_count (reads E.reader t) ≤ most_rules
    pub settled : Settled E (rules_of E.reader t)

  pub read_ok : (t : List ℕ) → Parts t → read_text E.reader t ≡ ok (rules_of E.reader t)
  unfolding read_text rules_of
  read_ok t h =
      rw (le-leb (length t) most_text h.short, collect-ok most_rules (reads E.reader t) h.faultless h.few, settle-ok E (rules_in (reads E.reader t)) h.settled)

  pub record Read (t : List ℕ) (rs : List (Placed E.reader.Rule)) : Type 0 where
    pub parts : Parts t
    pub same : rs ≡ rules_of E.reader t

  read_lines : (t : List ℕ) → length t ≤ most_text → (rs : List (Placed E.reader.Rule)) → Collected most_rules (reads E.reader t) rs
      → Settled E rs → Read t rs
  unfolding rules_of
  read_lines t h rs c s = record {
    parts = record { short = h; faultless = c.faultless; few = c.few; settled = subst (Settled E) c.same s };
    same = c.same;
  }

  read_short : (t : List ℕ) (b : Bool) → leb (length t) most_text ≡ b
      → Holds (Read t) (require b (line 0 text_long) >> (collect most_rules (reads E.reader t) >>= λ rs. (settle E.reader rs >> ok rs)))
  read_short t false e = tt
  read_short t true e =
      holds-bind (Collected most_rules (reads E.reader t)) (Read t) (collect most_rules (reads E.reader t)) (λ rs. (settle E.reader rs >> ok rs)) (collected most_rules (reads E.reader t))
      (λ rs c. holds-seq (λ (_ : ℕ). Settled E rs) (Read t) (settle E.reader rs) (ok rs) (settled E rs)
      (λ _ s. read_lines t (leb→le (length t) most_text (subst T (sym e) tt)) rs c s))

  pub read : (t : List ℕ) (rs : List (Placed E.reader.Rule)) → read_text E.reader t ≡ ok rs → Read t rs
  unfolding read_text
  read t rs e = holds_at (Read t) e (read_short t (leb (length t) most_text) refl)

  -- ---- a text that others may follow: what its whole lines read, and a skipped line

  -- an empty line joins nothing
  empty-lent : read_lent E.reader [] ≡ E.reader.read_line []
  unfolding read_lent stage_of unjoined
  empty-lent = refl

  record Front (t : List ℕ) : Type 0 where
    front : List (Placed (LineRead E.reader.Rule))
    last : ℕ
    alone : reads E.reader t ≡ front ++ (line last skip ∷ [])
    before : (v : List ℕ) → reads E.reader (t ++ v) ≡ front ++ shift (newlines t) (reads E.reader v)
    above : All (λ (p : Placed (LineRead E.reader.Rule)). line_of p ≤ newlines t) front

  module _ (L : Laws E) (t : List ℕ) (h : EndsWhole t) where
    front_of : Front t
    front_of =
        let f = numbered 1 (whole t h).front in
        record {
          front = map (in_place (read_lent E.reader)) f;
          last = newlines t + 1;
          alone = rw (lines-alone t h, map-append (in_place (read_lent E.reader)) f (line (newlines t + 1) [] ∷ []), empty-lent, L.empty_line);
          before = λ v. rw (lines-before t h v, map-append (in_place (read_lent E.reader)) f (shift (newlines t) (lines v)), in_place-shift (read_lent E.reader) (newlines t) (lines v));
          above =
              in_place-lines (read_lent E.reader) (λ (n : ℕ). n ≤ newlines t) f
              (All-map _ (λ (p : Placed (List ℕ)). line_of p ≤ newlines t) (λ p k. omega (arith, (whole t h).size)) f (numbered-lines 1 (whole t h).front));
        }

    alone-rules : rules_of E.reader t ≡ rules_in front_of.front
    unfolding rules_of rules_in
    alone-rules = rw (front_of.alone, rules-append front_of.front (line front_of.last skip ∷ []), append-nil (rules_in front_of.front))

    pub rules-join : (v : List ℕ) → rules_of E.reader (t ++ v) ≡ rules_of E.reader t ++ shift (newlines t) (rules_of E.reader v)
    unfolding rules_of
    rules-join v =
        ap rules_in (front_of.before v)
        ∙ (rules-append front_of.front (shift (newlines t) (reads E.reader v))
        ∙ rw (alone-rules, rules-shift (newlines t) (reads E.reader v)))

    pub faultless_join : (v : List ℕ) → Faultless (reads E.reader t) → Faultless (reads E.reader v) → Faultless (reads E.reader (t ++ v))
    faultless_join v f g =
        rw (front_of.before v)
        (faultless_append front_of.front (shift (newlines t) (reads E.reader v))
        (faultless_split front_of.front (line front_of.last skip ∷ []) (rw front_of.alone at f)).0 (faultless_shift (newlines t) (reads E.reader v) g))

    pub faultless_part : (v : List ℕ) → Faultless (reads E.reader (t ++ v)) → Faultless (reads E.reader t) × Faultless (reads E.reader v)
    faultless_part v f =
        let s = faultless_split front_of.front (shift (newlines t) (reads E.reader v)) (rw (front_of.before v) at f) in
        (rw front_of.alone (faultless_append front_of.front (line front_of.last skip ∷ []) s.0 tt), faultless_unshift (newlines t) (reads E.reader v) s.1)

    pub count-join : (v : List ℕ) → rule_count (reads E.reader (t ++ v)) ≡ rule_count (reads E.reader t) + rule_count (reads E.reader v)
    unfolding rule_count
    count-join v =
        rw (front_of.before v, front_of.alone, count-append front_of.front (shift (newlines t) (reads E.reader v)), count-append front_of.front (line front_of.last skip ∷ []), count-shift (newlines t) (reads E.reader v), add-zero)

    -- its rules stand on its whole lines
    pub rules-to : All (λ (p : Placed E.reader.Rule). line_of p ≤ newlines t) (rules_of E.reader t)
    rules-to = rw alone-rules (rules-lines (λ (n : ℕ). n ≤ newlines t) front_of.front front_of.above)

  -- lines count from 1
  pub rules-from : (t : List ℕ) → All (λ (p : Placed E.reader.Rule). 1 ≤ line_of p) (rules_of E.reader t)
  unfolding rules_of lines
  rules-from t =
      rules-lines (λ (n : ℕ). 1 ≤ n) (reads E.reader t)
      (in_place-lines (read_lent E.reader) (λ (n : ℕ). 1 ≤ n) (lines t) (All-map _ (λ (p : Placed (List ℕ)). 1 ≤ line_of p) (λ p k. k.0) (lines t) (numbered-lines 1 _)))
