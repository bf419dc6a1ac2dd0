-- The rows of an outcome record that is lent, and a turn of the walk over its runs.
-- Assumes nothing.
use Prim.Native.Nat.{ℕ, ◌-◌, ◌≤◌, ◌<◌}
use mathlib.Core.Path.{◌≡◌, sym, ap, ap₂, ◌∙◌, subst}
use mathlib.Core.Bool.{Bool, true, false, ◌&&◌}
use mathlib.Core.List.{List, [], ◌∷◌, ◌++◌, append_assoc}
use Rattle.std.specs.Prelude.{Some}
use native.Mathlib.Omega.{arith}
use borrow.Author.Tests.{leb-true}
use lib.Dec.{leb}
use lib.ListN.{length, take, drop, length-append}
use lib.Seq.{drop_at}
use Rattle.lists.specs.Lists.{cat, all}
use Rattle.lists.specs.Bytes.{Bytes, ok_text}
use Rattle.lists.specs.Sizes.{most_chain, most_value}
use Rattle.lists.proofs.Tests.{and_both}
use Rattle.lists.proofs.Moves.{bytes_drop}
use Rattle.bits.specs.Bits.{number_at}
use Rattle.bits.proofs.Numbers.{number-front}
use Rattle.entries.specs.Parse.{Parse, got, many}
use Rattle.entries.specs.Entry.{Property, one_prop}
use Rattle.entries.proofs.Rows.{Laws, many_there, many-back}
use Rattle.entries.proofs.Entries.{prop_laws}
use Rattle.template.specs.Template.{well_formed}
use Rattle.device.specs.Device.{Device, chain}
use Rattle.device_lookup.specs.declared.Chain.{Chain}
use Rattle.outcome.specs.Head.{header_size, header}
use Rattle.outcome.specs.State.{State, Run, ok_run, one_run, head_for, body, encode, decode}
use Rattle.outcome.proofs.Head.{header-length, head_there}
use Rattle.outcome.proofs.Parts.{run-laws}
use Rattle.outcome.proofs.RoundTrip.{back, good_fit}
use Rattle.outcome_target.specs.Layout.{layout_of, start_of, count_place, count_width}
use Rattle.outcome_target.specs.declared.Layout.{Layout}
use Rattle.outcome_target.specs.declared.Section.{Section}
use Rattle.outcome_target.proofs.Edits.{by_part}
use Rattle.outcome_target.proofs.Rows.{RowOf, properties-row, runs-row}
use Rattle.outcome_readers.specs.Readers.{RunsFrom, RunIs, FirstOf}
use Rattle.outcome_readers.proofs.Outputs.{decoded_output}
use Rattle.outcome_readers.specs.declared.RunPlace.{RunPlace}
use Rattle.lists.specs.Checked.{refused}
use Rattle.lists.specs.Refusal.{substitution_long}
use Rattle.engine.specs.Operations.{decode_for, commands}
use Rattle.substitution.specs.Places.{From, places_in}
use Rattle.substitution.specs.declared.Places.{Places}
use Rattle.substitution.proofs.Sources.{chain_source}
use Rattle.run_list.specs.Records.{Beside, Runs, Both}
use Rattle.engine.specs.Substitute.{filled}
use Rattle.run_list.specs.Lists.{Made, Leads}
use Rattle.run_list.proofs.Entries.{source_of, commands-more, commands_full}

-- ---- a row

-- where it stands, how many entries it has, and these
pub record Row (A : Type 0) (one : List ℕ → Parse A) (rec : List ℕ) (xs : List A) (at count : ℕ) : Type 0 where
  pub inside : at ≤ length rec
  pub counted : count ≡ length xs
  pub rest : List ℕ
  pub read : many one count (drop at rec) ≡ got xs rest

module _ {A : Type 0} {part : Section} {enc : A → List ℕ} {list : State → List A} {anew : State → List A → State} (T : RowOf A part enc list anew)
    {ok : A → Bool} {one : List ℕ → Parse A} (L : Laws A enc ok one) where
  pub record_row : (n : ℕ) (rec : List ℕ) (s : State) → Bytes rec → decode n rec ≡ Some s → all ok (list s) ≡ true
      → (at count : ℕ) → at ≡ start_of (layout_of s) part → count ≡ number_at rec (count_place part) (count_width part) → Row A one rec (list s) at count
  unfolding encode
  record_row n rec s b e each at count p q =
      let (w, g) = back n rec s b e in
      let h : List ℕ = header (head_for s) in
      let front : List ℕ = T.frame.front s in
      let z : List ℕ = T.frame.back s in
      let x : List ℕ = cat enc (list s) in
      let c : count ≡ length (list s) =
      q
      ∙ ap (λ (y : List ℕ). number_at y (count_place part) (count_width part)) (sym w)
      ∙ number-front h (s.output ++ body s) (count_place part) (count_width part) (omega (arith, T.inside, header-length (head_for s)))
      ∙ T.counted s (head_there (head_for s) (good_fit n s g))
      in
      let v : rec ≡ (h ++ front) ++ (x ++ z) =
      sym w
      ∙ by_part T.frame s
      ∙ ap (λ (y : List ℕ). h ++ (front ++ (y ++ z))) (T.written (T.frame.get s) ∙ ap (cat enc) (T.gets s))
      ∙ sym (append_assoc h front (x ++ z))
      in
      let m : length (h ++ front) ≡ at = length-append h front ∙ omega (arith, header-length (head_for s), p, T.start s) in
      record {
        inside = omega (arith, ap length v, length-append (h ++ front) (x ++ z), m);
        counted = c;
        rest = z;
        read = ap₂ (λ (i : ℕ) (y : List ℕ). many one i y) c (ap (drop at) v ∙ drop_at (h ++ front) (x ++ z) at m) ∙ many_there L (list s) z each;
      }

module _ (dev rec : List ℕ) (r : Chain) (lay : Layout) (d : Device) (s : State) (b : Bytes rec) (w : Both dev rec r lay d s) where
  decoded : decode (length (chain d)) rec ≡ Some s
  unfolding decode_for
  decoded = w.outcome

  pub both_header : header_size ≤ length rec
  unfolding encode
  both_header = omega (arith, ap length (back (length (chain d)) rec s b decoded).0, length-append (header (head_for s)) (s.output ++ body s), header-length (head_for s))

  pub properties-row_of : (n : ℕ) → n ≡ number_at rec 72 6 → Row Property one_prop rec s.properties lay.properties n
  properties-row_of n e =
      record_row properties-row prop_laws (length (chain d)) rec s b decoded (back (length (chain d)) rec s b decoded).1.properties.each lay.properties n (ap (λ (l : Layout). l.properties) w.layout) e

  pub runs-row_of : (n : ℕ) → n ≡ number_at rec 83 5 → Row Run (one_run (length (chain d))) rec s.runs lay.runs n
  runs-row_of n e =
      record_row runs-row (run-laws (length (chain d))) (length (chain d)) rec s b decoded (back (length (chain d)) rec s b decoded).1.runs.each lay.runs n (ap (λ (l : Layout). l.runs) w.layout) e

  pub runs_few : length s.runs ≤ 16
  runs_few = (back (length (chain d)) rec s b decoded).1.runs.few

  pub both_beside : (n : ℕ) → n ≡ number_at rec 72 6 → Beside dev rec r lay.properties n d s.properties s.output
  both_beside n e = let h = properties-row_of n e in record { device = w.device; chained = w.chained; inside = h.inside; rest = h.rest; properties = h.read; output = decoded_output (length (chain d)) rec s b decoded }

  pub both_runs : (n : ℕ) → n ≡ number_at rec 83 5 → Runs rec lay.runs n d s.runs
  both_runs n e = let h = runs-row_of n e in record { inside = h.inside; behind = h.rest; read = h.read }

-- ---- a turn over the runs

pub runs_none : (rec : List ℕ) (p left : ℕ) (d : Device) (rs : List Run) → Runs rec p left d rs → left ≡ 0 → rs ≡ []
runs_none rec p left d rs w e =
    let f : got [] (drop p rec) ≡ got rs w.behind = subst (λ (i : ℕ). many (one_run (length (chain d))) i (drop p rec) ≡ got rs w.behind) e w.read in
    cc

pub runs-from : (rec : List ℕ) (p left : ℕ) (d : Device) (rs : List Run) → Runs rec p left d rs → 0 < left → RunsFrom rec p
runs-from rec p left d rs w h =
    record { chain = length (chain d); left = left; runs = rs; behind = w.behind; within = w.inside; some = h; read = w.read }

-- the first run, which is sound, and the others
pub record Here (rec : List ℕ) (left : ℕ) (d : Device) (rs : List Run) (r : RunPlace) : Type 0 where
  pub run : Run
  pub others : List Run
  pub whole : rs ≡ run ∷ others
  pub is : RunIs rec run r
  pub next : Runs rec r.end (left - 1) d others
  pub few : run.place ≤ length (chain d)
  pub sound : well_formed run.template ≡ true

okay : (n : ℕ) (run : Run) → ok_run n run ≡ true → (run.place ≤ n) × (well_formed run.template ≡ true)
okay n run h =
    let a = (and_both (leb run.place most_chain) (leb run.place n && (ok_text most_value run.template && well_formed run.template)) h).1 in
    let (p, q) = and_both (leb run.place n) (ok_text most_value run.template && well_formed run.template) a in
    (leb-true run.place n p, (and_both (ok_text most_value run.template) (well_formed run.template) q).1)

pub runs_here : (rec : List ℕ) (p left : ℕ) (d : Device) (rs : List Run) (r : RunPlace) → Bytes rec → Runs rec p left d rs → 0 < left → FirstOf rec p r → Here rec left d rs r
runs_here rec p left d rs r b w h f =
    let (run, others, e, i, m) = f (length (chain d)) left rs w.behind h w.read in
    let a : all (ok_run (length (chain d))) rs ≡ true = (many-back (run-laws (length (chain d))) left (drop p rec) rs w.behind (bytes_drop p rec b) w.read).1 in
    let o = okay (length (chain d)) run (and_both (ok_run (length (chain d)) run) (all (ok_run (length (chain d))) others) (subst (λ (x : List Run). all (ok_run (length (chain d))) x ≡ true) e a)).0 in
    record { run = run; others = others; whole = e; is = i; next = record { inside = i.inside; behind = w.behind; read = m }; few = o.0; sound = o.1 }

-- where its text comes from
pub here_source : (dev rec : List ℕ) (r : Chain) (at n left : ℕ) (d : Device) (ps : List Property) (y : List ℕ) (rs : List Run) (q : RunPlace) → Bytes dev → Beside dev rec r at n d ps y
    → (h : Here rec left d rs q) → (p : Places) → p ≡ places_in r q.place at n → From dev rec p (source_of d ps y h.run h.others)
here_source dev rec r at n left d ps y rs q b w h p e =
    subst (λ (x : Places). From dev rec x (source_of d ps y h.run h.others)) (sym (e ∙ ap (λ (i : ℕ). places_in r i at n) h.is.device))
    (chain_source dev d b w.device r w.chained rec at n ps w.rest w.inside w.properties y w.output h.run.place h.few)

-- its command, and the others
module _ (rec : List ℕ) (left : ℕ) (d : Device) (ps : List Property) (y : List ℕ) (rs : List Run) (q : RunPlace) (h : Here rec left d rs q) where
  abbrev pub template_at : List ℕ
  template_at = take (q.end - q.start) (drop q.start rec)

  pub here_leads : (l l₁ : List ℕ) (at k : ℕ) → Made q.builtin (filled false (source_of d ps y h.run h.others) template_at) l at (Some k) l₁
      → Leads (commands d ps y rs) l at (commands d ps y h.others) l₁ k
  here_leads l l₁ at k m =
      let n : Made h.run.builtin (filled false (source_of d ps y h.run h.others) h.run.template) l at (Some k) l₁ =
      subst (λ (b : Bool). Made b (filled false (source_of d ps y h.run h.others) h.run.template) l at (Some k) l₁) h.is.type
      (subst (λ (x : List ℕ). Made q.builtin (filled false (source_of d ps y h.run h.others) x) l at (Some k) l₁) h.is.template m)
      in
      subst (λ (x : List Run). Leads (commands d ps y x) l at (commands d ps y h.others) l₁ k) (sym h.whole) (commands-more d ps y h.run h.others l l₁ at k n)

  pub here_full : filled false (source_of d ps y h.run h.others) template_at ≡ refused substitution_long → commands d ps y rs ≡ refused substitution_long
  here_full e = ap (commands d ps y) h.whole ∙ commands_full d ps y h.run h.others (ap (filled false (source_of d ps y h.run h.others)) (sym h.is.template) ∙ e)

-- what is left of the runs at place p, and their commands
pub record Rest (rec : List ℕ) (p left : ℕ) (d : Device) (ps : List Property) (y : List ℕ) (rs : List Run) (t₀ t : List ℕ) (at : ℕ) : Type 0 where
  pub others : List Run
  pub stand : Runs rec p left d others
  pub leads : Leads (commands d ps y rs) t₀ 1 (commands d ps y others) t at
