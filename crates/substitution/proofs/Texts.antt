-- The text of a template from a place on: a run of bytes that stand for themselves or one piece, and the rest; and the whole text.
-- Assumes nothing.
use Prim.Native.Nat.{ℕ, ◌+◌, ◌-◌, ◌≤◌, ◌<◌}
use mathlib.Core.Path.{◌≡◌, refl, sym, ap, ap₂, ◌∙◌, subst}
use mathlib.Core.Bool.{Bool, true, false, not, ◌&&◌}
use mathlib.Core.List.{List, [], ◌∷◌, ◌++◌}
use Rattle.std.specs.Prelude.{Option, None, Some}
use native.Mathlib.Omega.{arith}
use borrow.Author.Tests.{not-true, le-leb, lt-leb}
use lib.Dec.{eqb, leb}
use lib.ListN.{length, take, drop, length-append}
use lib.Seq.{take_at, drop_at}
use Rattle.lists.specs.Lists.{pick, is_some}
use Rattle.lists.specs.Runs.{span}
use Rattle.lists.specs.Items.{before}
use Rattle.lists.specs.Checked.{Checked, refused, ok}
use Rattle.lists.specs.Refusal.{Refusal, substitution_long}
use Rattle.lists.specs.Sizes.{most_substituted}
use Rattle.lists.proofs.Tests.{and_both}
use Rattle.lists.proofs.Scan.{some-before}
use Rattle.lists.proofs.Runs.{span_in, span-stop, run_at, rest_of}
use Rattle.scan.specs.Ends.{RunEnd}
use Rattle.template.specs.Template as T
use Rattle.template.specs.Template.{Piece, pieces, well_formed}
use Rattle.template.proofs.Pieces.{pieces_at}
use Rattle.pieces.specs.Read.{piece, end, fault, read_at}
use Rattle.pieces.proofs.Pieces.{reads-piece, reads_end, reads-fault}
use Rattle.splice.specs.Moves.{stored}
use Rattle.splice.proofs.Laws.{length-stored}
use Rattle.engine.specs.Substitute.{Source, inserted, piece_text, text_of, pieces_of, substituted, within, filled}
use Rattle.insertion.specs.Append.{Placed, Appended}
use Rattle.insertion.proofs.Laws.{appended_both, appended_full}
use Rattle.substitution.specs.Turns.{is_plain, Turned, Text}

-- ---- pieces

module _ (spaceless : Bool) (s : Source) where
  before_text : (p : Piece) (o : Option (List Piece)) → is_some o ≡ true → text_of spaceless s (pieces_of (before p o)) ≡ piece_text spaceless s p ++ text_of spaceless s (pieces_of o)
  unfolding text_of
  before_text p None h = let z : ◌≡◌ {A = ℕ} 0 1 = cc in absurd (omega arith)
  before_text p (Some ps) h = refl

  -- a piece, and the rest
  next-text : (bs rest : List ℕ) (p : Piece) → pieces bs ≡ before p (pieces rest) → well_formed bs ≡ true
      → (well_formed rest ≡ true) × (substituted spaceless s bs ≡ piece_text spaceless s p ++ substituted spaceless s rest)
  unfolding well_formed substituted
  next-text bs rest p e h =
      let w : is_some (pieces rest) ≡ true = sym (ap is_some e ∙ some-before p (pieces rest)) ∙ h in
      (w, ap (λ (o : Option (List Piece)). text_of spaceless s (pieces_of o)) e ∙ before_text p (pieces rest) w)

  pub piece-next : (t : List ℕ) (i : ℕ) (p : Piece) (n : ℕ) → read_at t i ≡ piece p n → well_formed (drop i t) ≡ true
      → (well_formed (drop n t) ≡ true) × (substituted spaceless s (drop i t) ≡ piece_text spaceless s p ++ substituted spaceless s (drop n t))
  piece-next t i p n r h = next-text (drop i t) (drop n t) p (reads-piece t i p n r) h

  pub piece-end : (t : List ℕ) (i : ℕ) → read_at t i ≡ end → [] ≡ substituted spaceless s (drop i t)
  unfolding substituted text_of
  piece-end t i r = sym (ap (λ (o : Option (List Piece)). text_of spaceless s (pieces_of o)) (reads_end t i r))

  -- ---- a run of bytes that stand for themselves

  plain-piece : (b : ℕ) (bs : List ℕ) → is_plain b ≡ true → pieces (b ∷ bs) ≡ before (T.written b) (pieces bs)
  plain-piece b bs h =
      let (d, q) = and_both (not (eqb b 36)) (not (eqb b 37)) h in
      pieces_at b bs (record { value = T.written b; more = 0 }) (rw (not-true (eqb b 36) d, not-true (eqb b 37) q))

  run-text : (bs : List ℕ) → well_formed bs ≡ true
      → (well_formed (span is_plain bs).rest ≡ true) × (substituted spaceless s bs ≡ (span is_plain bs).value ++ substituted spaceless s (span is_plain bs).rest)
  unfolding span piece_text inserted
  run-text [] h = (h, refl)
  run-text (b ∷ bs) h = go (is_plain b) refl (run-text bs)
    where
      go : (t : Bool) → is_plain b ≡ t
          → (well_formed bs ≡ true → (well_formed (span is_plain bs).rest ≡ true) × (substituted spaceless s bs ≡ (span is_plain bs).value ++ substituted spaceless s (span is_plain bs).rest))
          → (well_formed (span is_plain (b ∷ bs)).rest ≡ true) × (substituted spaceless s (b ∷ bs) ≡ (span is_plain (b ∷ bs)).value ++ substituted spaceless s (span is_plain (b ∷ bs)).rest)
      go true t f =
          let (w, x) = next-text (b ∷ bs) bs (T.written b) (plain-piece b bs t) h in
          let (v, y) = f w in
          rw (span_in is_plain b bs t) (v, x ∙ ap (λ (l : List ℕ). b ∷ l) y)
      go false t f = rw (span-stop is_plain b bs t) (h, refl)

  pub plain-next : (t : List ℕ) (i e : ℕ) → RunEnd is_plain t i e → well_formed (drop i t) ≡ true
      → (well_formed (drop e t) ≡ true) × (substituted spaceless s (drop i t) ≡ take (e - i) (drop i t) ++ substituted spaceless s (drop e t))
  plain-next t i e r h =
      let (w, x) = run-text (drop i t) h in
      rw (r.place, ← rest_of is_plain t i, ← run_at is_plain t i) (w, x)

pub piece-fault : (t : List ℕ) (i : ℕ) → read_at t i ≡ fault → well_formed (drop i t) ≡ true → ⊥
unfolding well_formed
piece-fault t i r h = let e : is_some (pieces (drop i t)) ≡ false = ap is_some (reads-fault t i r) in let z : ◌≡◌ {A = ℕ} 0 1 = cc in omega arith

-- ---- a turn

-- x was put, and stands before the text from n on
module _ (spaceless : Bool) (s : Source) (t : List ℕ) (i : ℕ) (l : List ℕ) (used : ℕ) (x : List ℕ) (n : ℕ) (e : substituted spaceless s (drop i t) ≡ x ++ substituted spaceless s (drop n t)) where
  pub turn_text : (k : ℕ) (l' : List ℕ) → Appended x l used (Some k) l' → Turned spaceless s t i l used (Some (Some (record { next = n; used = k }))) l'
  turn_text k l' q = λ r m z. rw e (appended_both x (substituted spaceless s (drop n t)) l used k l' q r m z)

  pub turn_full : (l' : List ℕ) → Appended x l used None l' → Turned spaceless s t i l used None l'
  turn_full l' q = rw e (appended_full x (substituted spaceless s (drop n t)) l used 0 l' q)

-- ---- the whole

module _ (spaceless : Bool) (s : Source) (t l : List ℕ) (f : length l ≡ most_substituted) where
  pub filled-text : (k : ℕ) (l' : List ℕ) → Appended (substituted spaceless s t) l 0 (Some k) l' → Text (filled spaceless s t) l k l'
  unfolding filled
  filled-text k l' p =
      let x : List ℕ = substituted spaceless s t in
      let e : length x ≡ k = omega (arith, p.end) in
      let q : take k l' ≡ x = ap (take k) p.bytes ∙ take_at x (drop (0 + length x) l) k e in
      record {
        is = rw (le-leb (length x) most_substituted (omega (arith, p.room, f)), within) (ap ok (sym q));
        room = p.room;
        size = ap length p.bytes ∙ length-stored l 0 x (omega (arith, p.room));
        behind = ap (drop k) p.bytes ∙ drop_at x (drop (0 + length x) l) k e ∙ ap (λ (i : ℕ). drop i l) (let g : 0 + length x ≡ k = omega arith in g);
      }

  pub filled_full : (l' : List ℕ) → Appended (substituted spaceless s t) l 0 None l' → filled spaceless s t ≡ refused substitution_long
  unfolding filled
  filled_full l' p = rw (lt-leb (length (substituted spaceless s t)) most_substituted (omega (arith, f)), within)
