-- Each row of a held record as code walks it.
-- Assumes nothing.
use Prim.Native.Nat.{ℕ, ◌+◌, ◌-◌, ◌≤◌, ◌<◌}
use mathlib.Core.Path.{◌≡◌, refl, sym, ap, ap₂, ◌∙◌, subst}
use mathlib.Core.Bool.{Bool, true}
use mathlib.Core.List.{List, ◌∷◌, ◌++◌, map, map-id}
use native.Mathlib.Omega.{arith}
use lib.Dec.{eqb}
use lib.ListN.{length, take, drop}
use Rattle.lists.specs.Lists.{all}
use Rattle.lists.proofs.Moves.{ap_at}
use Rattle.bits.specs.Bits.{number_at}
use Rattle.entries.specs.Parse.{Parse, got, many}
use Rattle.entries.specs.Entry.{enc_text, Property, one_text, one_prop}
use Rattle.entries.proofs.Rows.{Laws, many_there}
use Rattle.entries.proofs.Entries.{text-laws, prop_laws}
use Rattle.rows.specs.Entry.{rest_len, size, name, Placed, RunRead}
use Rattle.rows.specs.Row.{Row, names}
use Rattle.rows.specs.declared.Kind.{Kind}
use Rattle.rows.specs.declared.Kind.TheVariants as kind
use Rattle.rows.specs.declared.Entry.{Entry}
use Rattle.rows.specs.declared.RunHead.{RunHead}
use Rattle.rows.proofs.Turns.{place-name, row_first}
use Rattle.rows.proofs.Readers.{Reads, text-reads, property-reads, many-row, many-names}
use Rattle.outcome.specs.State.{State, Run, one_run, Good}
use Rattle.outcome.proofs.Parts.{run-laws}
use Rattle.outcome_target.specs.Layout.{start_of, count_place, count_width}
use Rattle.outcome_target.specs.Held.{Held}
use Rattle.outcome_target.specs.Texts.{section_of, ok_of, texts_in, with_texts}
use Rattle.outcome_target.specs.declared.Layout.{Layout}
use Rattle.outcome_target.specs.declared.Section.{Section}
use Rattle.outcome_target.specs.declared.Section.TheVariants as section
use Rattle.outcome_target.specs.declared.Texts.{Texts}
use Rattle.outcome_target.specs.declared.Texts.TheVariants as texts
use Rattle.outcome_target.proofs.Facts.{behind}
use Rattle.outcome_target.proofs.Rows.{RowOf, texts-row, properties-row, runs-row, row_within, row_count, row-bytes}
use Rattle.outcome_check.proofs.Runs.{run_here, run-reads}
use Rattle.outcome_readers.specs.Readers.{Stands, RunsFrom, RunIs}
use Rattle.outcome_readers.specs.declared.RowPlace.{RowPlace}
use Rattle.outcome_readers.specs.declared.RunPlace.{RunPlace}

-- ---- a row

-- the entries that were read of a row, and the facts that follow
pub record Reading (A : Type 0) (kind : Kind) (one : List ℕ → Parse A) (nm : A → List ℕ) (l : List ℕ) (xs : List A) (at count : ℕ) : Type 0 where
  pub within : at ≤ length l
  pub counted : count ≡ length xs
  pub rest : List ℕ
  pub read : many one count (drop at l) ≡ got xs rest
  pub row : Row kind count (drop at l)
  pub named : names kind count (drop at l) ≡ map nm xs

module _ {A : Type 0} {part : Section} {enc : A → List ℕ} {list : State → List A} {anew : State → List A → State} (T : RowOf A part enc list anew)
    {ok : A → Bool} {one : List ℕ → Parse A} (L : Laws A enc ok one) {kind : Kind} {test : List ℕ → Bool} {here : List ℕ → A} (R : Reads A kind one test here)
    (nm : A → List ℕ) (f : (bs : List ℕ) → nm (here bs) ≡ name kind bs) where
  pub row_read : (n : ℕ) (l : List ℕ) (lay : Layout) (s : State) → Held n l lay s → all ok (list s) ≡ true
      → (at count : ℕ) → at ≡ start_of lay part → count ≡ number_at l (count_place part) (count_width part) → Reading A kind one nm l (list s) at count
  row_read n l lay s w each at count a b =
      let c : count ≡ length (list s) = b ∙ row_count T n l lay s w in
      let z : List ℕ = behind n l lay s w T.frame in
      let e : many one count (drop at l) ≡ got (list s) z =
      ap₂ (λ (i j : ℕ). many one i (drop j l)) c a
      ∙ ap (many one (length (list s))) (row-bytes T n l lay s w)
      ∙ many_there L (list s) z each
      in
      record {
        within = subst (λ (i : ℕ). i ≤ length l) (sym a) (row_within T n l lay s w);
        counted = c;
        rest = z;
        read = e;
        row = many-row R count (drop at l) (list s) z e;
        named = many-names R nm f count (drop at l) (list s) z e;
      }

-- links or tags
texts_each : (list : Texts) (n : ℕ) (s : State) → Good n s → all (ok_of list) (texts_in list s) ≡ true
texts_each texts.Links n s g = g.links.each
texts_each texts.Tags n s g = g.tags.each

pub texts_at : (list : Texts) (part : Section) → part ≡ section_of list → RowOf (List ℕ) part enc_text (texts_in list) (with_texts list)
texts_at list part e = subst (λ (p : Section). RowOf (List ℕ) p enc_text (texts_in list) (with_texts list)) (sym e) (texts-row list)

pub texts_read : (list : Texts) (part : Section) → part ≡ section_of list → (n : ℕ) (l : List ℕ) (lay : Layout) (s : State) → Held n l lay s → (at count : ℕ)
    → at ≡ start_of lay part → count ≡ number_at l (count_place part) (count_width part) → Reading (List ℕ) kind.Text (one_text (ok_of list)) (λ x. x) l (texts_in list s) at count
texts_read list part e n l lay s w =
    row_read (texts_at list part e) (text-laws (ok_of list)) (text-reads (ok_of list)) (λ x. x) (λ bs. refl) n l lay s w (texts_each list n s w.good)

module _ (n : ℕ) (l : List ℕ) (lay : Layout) (s : State) (w : Held n l lay s) where
  pub properties_read : (at count : ℕ) → at ≡ start_of lay section.Properties → count ≡ number_at l 72 6 → Reading Property kind.Property one_prop (λ p. p.key) l s.properties at count
  properties_read = row_read properties-row prop_laws property-reads (λ p. p.key) (λ bs. refl) n l lay s w w.good.properties.each

  pub runs_read : (at count : ℕ) → at ≡ start_of lay section.Runs → count ≡ number_at l 83 5 → Reading Run kind.Run (one_run n) (λ r. r.template) l s.runs at count
  runs_read = row_read runs-row (run-laws n) (run-reads n) (λ r. r.template) (λ bs. refl) n l lay s w w.good.runs.each

  pub row_stands : (part : Section) (r : RowPlace) → r.at ≡ start_of lay part → r.count ≡ number_at l (count_place part) (count_width part) → Stands part n l s r
  row_stands section.Links r a b =
      let h = texts_read texts.Links section.Links refl n l lay s w r.at r.count a b in
      record { within = h.within; counted = h.counted; row = h.row; named = h.named ∙ map-id s.links; read = (h.rest, h.read) }
  row_stands section.Properties r a b =
      let h = properties_read r.at r.count a b in
      record { within = h.within; counted = h.counted; row = h.row; named = h.named; read = (h.rest, h.read) }
  row_stands section.Tags r a b =
      let h = texts_read texts.Tags section.Tags refl n l lay s w r.at r.count a b in
      record { within = h.within; counted = h.counted; row = h.row; named = h.named ∙ map-id s.tags; read = (h.rest, h.read) }
  row_stands section.Runs r a b =
      let h = runs_read r.at r.count a b in
      record { within = h.within; counted = h.counted; row = h.row; named = h.named; read = (h.rest, h.read) }

-- ---- a run

-- there is room for the first of several
pub run_fits : (l : List ℕ) (p : ℕ) (w : RunsFrom l p) → size kind.Run (drop p l) ≤ length (drop p l)
run_fits l p w = row_first kind.Run w.left (drop p l) w.some (many-row (run-reads w.chain) w.left (drop p l) w.runs w.behind w.read)

-- its head and its template, in the places that code has
pub run_is : (l : List ℕ) (p : ℕ) (e : Entry) (h : RunHead) (r : RunPlace) → Placed kind.Run l p e → RunRead (take (e.name - p) (drop p l)) h
    → r.builtin ≡ eqb h.builtin 1 → r.place ≡ h.place → r.start ≡ e.name → r.end ≡ e.end → RunIs l (run_here (drop p l)) r
unfolding rest_len
run_is l p e h r w d b q u v =
    let k : e.name - p ≡ 2 = omega (arith, w.start) in
    let x : e.end ≡ e.rest = omega (arith, w.end) in
    let y : take (e.name - p) (drop p l) ≡ take 2 (drop p l) = ap (λ (i : ℕ). take i (drop p l)) k in
    record {
      type = b ∙ ap (λ (i : ℕ). eqb i 1) (d.builtin ∙ ap (λ (z : List ℕ). number_at z 0 1) y);
      device = q ∙ d.place ∙ ap (λ (z : List ℕ). number_at z 1 5) y;
      template = ap₂ (λ (i j : ℕ). take (i - j) (drop j l)) (v ∙ x) u ∙ place-name kind.Run l p e w;
      rising = omega (arith, w.middle, w.end);
      inside = omega (arith, w.within);
    }
