-- What is inserted, by the parts of the records that code has.
-- Assumes nothing.
use Prim.Native.Nat.{ℕ, ◌+◌, ◌-◌, ◌≤◌, ◌<◌}
use mathlib.Core.Path.{◌≡◌, refl, sym, ap, ◌∙◌, subst}
use mathlib.Core.Bool.{Bool, true, false}
use mathlib.Core.List.{List, [], ◌∷◌}
use Rattle.std.specs.Prelude.{Option, None, Some}
use native.Mathlib.Omega.{arith}
use lib.ListN.{length, take, drop}
use Rattle.lists.specs.Bytes.{Bytes}
use Rattle.lists.specs.Runs.{trim, end_digits}
use Rattle.bits.specs.Bits.{number_at}
use Rattle.entries.specs.Entry.{or_empty}
use Rattle.entries.proofs.Heads.{number-first}
use Rattle.device.specs.Head.{Head}
use Rattle.device.specs.Device.{Member, Device, decode, attr_of}
use Rattle.device.specs.Places.{Lies}
use Rattle.device.proofs.RoundTrip.{head_decoded}
use Rattle.device_lookup.specs.Lookup.{Standing, Says}
use Rattle.device_lookup.specs.declared.Span.{Span}
use Rattle.device_lookup.proofs.Devices.{record_head, record_short}
use Rattle.rows.specs.Row.{Row}
use Rattle.rows.specs.declared.Kind.TheVariants as kind
use Rattle.rows.proofs.Readers.{property-reads, many-row}
use Rattle.template.specs.Template as T
use Rattle.pieces.specs.Read.{meaning}
use Rattle.pieces.specs.declared.Piece.{Piece}
use Rattle.engine.specs.Substitute.{Source, of_matched, attr_at, first_of, matched_in, inserted, is_written, piece_text}
use Rattle.insertion.specs.Append.{asked, Appended}
use Rattle.insertion.proofs.Laws.{appended_none}
use Rattle.substitution.specs.Places.{MatchedIs, MatchedStands, From}
use Rattle.substitution.specs.declared.Places.{Places}

-- ---- texts

-- the same text
pub appended_same : (spaceless : Bool) (x y l : List ℕ) (used : ℕ) (r : Option ℕ) (l' : List ℕ) → x ≡ y → Appended (asked spaceless x) l used r l' → Appended (asked spaceless y) l used r l'
appended_same spaceless x y l used r l' e p = subst (λ (z : List ℕ). Appended (asked spaceless z) l used r l') e p

-- no text
pub nothing_put : (spaceless : Bool) (y l : List ℕ) (used : ℕ) → [] ≡ y → used ≤ length l → Appended (asked spaceless y) l used (Some used) l
nothing_put spaceless y l used e h = appended_same spaceless [] y l used (Some used) l e (none-asked spaceless)
  where
    none-asked : (t : Bool) → Appended (asked t []) l used (Some used) l
    none-asked true = appended_none l used h
    none-asked false = appended_none l used h

-- ---- the matched device

pub matched-text : (f : Member → List ℕ) (o : Option Member) (m : Member) → o ≡ Some m → f m ≡ of_matched o f
matched-text f o m e = rw e

pub unmatched_text : (f : Member → List ℕ) (o : Option Member) → o ≡ None → [] ≡ of_matched o f
unmatched_text f o e = rw e

pub matched_stands : (l : List ℕ) (d : Device) → Bytes l → decode l ≡ Some d → (matched : Option ℕ) (o : Option Member) → MatchedIs l matched o → MatchedStands l matched
matched_stands l d b e (Some p) o (m, q, h) = record { member = m; lies = h; short = record_short l d b e }
matched_stands l d b e None o h = tt

-- ---- attributes

-- of the event device
pub attribute-here : (l key : List ℕ) (m : Member) (o : Option Member) (v : Span) → Says l (Some v) (attr_of key m)
    → take v.len (drop v.start l) ≡ or_empty (first_of (attr_of key m) (attr_at key o))
attribute-here l key m o v e = rw e

-- of the matched device
pub attribute_there : (key : List ℕ) (m : Member) (o : Option Member) → attr_of key m ≡ None → or_empty (attr_at key o) ≡ or_empty (first_of (attr_of key m) (attr_at key o))
attribute_there key m o e = rw e

pub attribute-matched : (key : List ℕ) (o : Option Member) (m : Member) → o ≡ Some m → or_empty (attr_of key m) ≡ or_empty (attr_at key o)
attribute-matched key o m e = rw e

pub attribute-none : (key : List ℕ) (o : Option Member) → o ≡ None → [] ≡ trim (or_empty (attr_at key o))
unfolding trim
attribute-none key o e = rw e

-- ---- numbers of the header

module _ (l : List ℕ) (d : Device) (b : Bytes l) (e : decode l ≡ Some d) where
  pub major-is : number_at l 12 12 ≡ d.major
  major-is = sym (number-first l 7 12 12 (record_head l d b e) (omega arith)) ∙ ap (λ (h : Head). h.major) (head_decoded l d e)

  pub minor-is : number_at l 24 20 ≡ d.minor
  minor-is = sym (number-first l 7 24 20 (record_head l d b e) (omega arith)) ∙ ap (λ (h : Head). h.minor) (head_decoded l d e)

-- ---- one piece

module _ (spaceless : Bool) (s : Source) (template : List ℕ) (p : Piece) (q : T.Piece) (x l : List ℕ) (used : ℕ) (r : Option ℕ) (l' : List ℕ) (e : meaning p template ≡ q) where
  -- a written byte or a sign
  pub piece-written : x ≡ piece_text spaceless s q → Appended x l used r l' → Appended (piece_text spaceless s (meaning p template)) l used r l'
  piece-written i h = subst (λ (y : List ℕ). Appended y l used r l') (i ∙ ap (piece_text spaceless s) (sym e)) h

  -- what is inserted
  pub piece-inserted : is_written q ≡ false → x ≡ inserted s q → Appended (asked spaceless x) l used r l' → Appended (piece_text spaceless s (meaning p template)) l used r l'
  unfolding piece_text
  piece-inserted w i h =
      let f : piece_text spaceless s q ≡ asked spaceless (inserted s q) = rw (w, piece_text) in
      subst (λ (y : List ℕ). Appended y l used r l') (ap (asked spaceless) i ∙ sym f ∙ ap (piece_text spaceless s) (sym e)) h

pub written-text : (spaceless : Bool) (s : Source) (b : ℕ) → b ∷ [] ≡ piece_text spaceless s (T.written b)
unfolding piece_text inserted
written-text spaceless s b = refl

pub dollar-text : (spaceless : Bool) (s : Source) → 36 ∷ [] ≡ piece_text spaceless s T.dollar
unfolding piece_text inserted
dollar-text true s = refl
dollar-text false s = refl

pub percent-text : (spaceless : Bool) (s : Source) → 37 ∷ [] ≡ piece_text spaceless s T.percent
unfolding piece_text inserted
percent-text true s = refl
percent-text false s = refl

-- ---- what a source stands for

module _ (dev rec : List ℕ) (b : Bytes dev) (p : Places) (s : Source) (f : From dev rec p s) where
  pub source_event : Standing dev p.event
  source_event = record { member = s.device.event; lies = f.event; short = record_short dev s.device b f.device }

  pub source_matched : MatchedStands dev p.matched
  source_matched = matched_stands dev s.device b f.device p.matched (matched_in s) f.matched

  pub source_row : Row kind.Property p.count (drop p.properties rec)
  source_row = many-row property-reads p.count (drop p.properties rec) s.properties f.rest f.properties

  pub source_head : 7 ≤ length dev
  source_head = record_head dev s.device b f.device
