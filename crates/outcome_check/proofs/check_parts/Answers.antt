-- `outcome_check::check_parts` meets its contract.
-- Assumes nothing.
use Prim.Native.Nat.{ℕ, ◌≤◌}
use mathlib.Core.Path.{◌≡◌, refl, sym, ap, ◌∙◌}
use mathlib.Core.List.{List}
use lib.ListN.{length, take, drop}
use Rattle.lists.specs.Bytes.{Bytes}
use Rattle.entries.specs.Parse.{many}
use Rattle.entries.specs.Entry.{one_text, one_prop}
use Rattle.entries.proofs.Entries.{text-laws, prop_laws}
use Rattle.rows.specs.Row.{end_of}
use Rattle.std.specs.Prelude.{Some, None}
use Rattle.outcome.specs.Head.{Head, header_size, head_of}
use Rattle.outcome.specs.Content.{ok_link}
use Rattle.outcome.specs.State.{ok_tag, one_run, output_on, ended}
use Rattle.outcome.proofs.Parts.{run-laws}
use Rattle.outcome_target.specs.declared.Layout.{Layout}
use Rattle.outcome_check.specs.Check.{front}
use Rattle.outcome_check.specs.declared.Counts.{Counts}
use Rattle.outcome_check.proofs.Heads.{head_by, head_by_lem}
use Rattle.outcome_check.proofs.Parts.{FrontAt, LinksAt, PropertiesAt, TagsAt, RunsAt, ReadAt, front_at, row_at, bad-front, bad-links, bad-properties, bad-tags, bad-runs, state_at, bytes_left, none_left, laid, standing, same-apart}
use Rattle.outcome_check.proofs.check_parts.Goals as goal

-- ---- each part, read behind the one before it

the_front : (k : ℕ) (l : List ℕ) (c : Counts) (p : ℕ) → header_size ≤ length l → Some p ≡ end_of (length l) (front c (drop header_size l)) → FrontAt k l (head_by (take header_size l) c) p
the_front k l c p h e = front_at k l (head_by (take header_size l) c) p h (sym e)

the_links : (l : List ℕ) → Bytes l → (n at p : ℕ) → at ≤ length l → Some p ≡ end_of (length l) (many (one_text ok_link) n (drop at l)) → LinksAt l n at p
the_links l b n at p h e = row_at l b (text-laws ok_link) n at p h (sym e)

the_properties : (l : List ℕ) → Bytes l → (n at p : ℕ) → at ≤ length l → Some p ≡ end_of (length l) (many one_prop n (drop at l)) → PropertiesAt l n at p
the_properties l b n at p h e = row_at l b prop_laws n at p h (sym e)

the_tags : (l : List ℕ) → Bytes l → (n at p : ℕ) → at ≤ length l → Some p ≡ end_of (length l) (many (one_text ok_tag) n (drop at l)) → TagsAt l n at p
the_tags l b n at p h e = row_at l b (text-laws ok_tag) n at p h (sym e)

the_runs : (k : ℕ) (l : List ℕ) → Bytes l → (n at p : ℕ) → at ≤ length l → Some p ≡ end_of (length l) (many (one_run k) n (drop at l)) → RunsAt l k n at p
the_runs k l b n at p h e = row_at l b (run-laws k) n at p h (sym e)

pub returns-in_err-links : goal.returns-in_err-links
returns-in_err-links c =
    let a = c.args in
    let l = a.rec.now in
    let h = head_by (take header_size l) a.c in
    rw c.from_residual.ensures
    (ap (λ (j : Head). ended (output_on a.chain j (drop header_size l))) (sym (head_by_lem (take header_size l) a.c c.requires.1))
    ∙ bad-front a.chain l h (sym c.in_err-links.ensures))

pub check_texts-requires : goal.check_texts-requires
check_texts-requires c = (the_front c.args.chain c.args.rec.now c.args.c c.in_ok-links.links c.requires.0 c.in_ok-links.ensures).within

pub returns-in_err-properties : goal.returns-in_err-properties
returns-in_err-properties c =
    let a = c.args in
    let l = a.rec.now in
    let h = head_by (take header_size l) a.c in
    let f = the_front a.chain l a.c c.in_ok-links.links c.requires.0 c.in_ok-links.ensures in
    rw c.from_residual-in_err-properties.ensures
    (ap (λ (j : Head). ended (output_on a.chain j (drop header_size l))) (sym (head_by_lem (take header_size l) a.c c.requires.1))
    ∙ bad-links a.chain l h f (sym c.in_err-properties.ensures))

pub check_properties-requires : goal.check_properties-requires
check_properties-requires c =
    let a = c.args in
    let l = a.rec.now in
    let b : Bytes l = λ i. (c.type_inv.rec i).fits in
    let f = the_front a.chain l a.c c.in_ok-links.links c.requires.0 c.in_ok-links.ensures in
    (the_links l b a.c.links c.in_ok-links.links c.in_ok-properties.properties f.within c.in_ok-properties.ensures).within

pub returns-in_err-tags : goal.returns-in_err-tags
returns-in_err-tags c =
    let a = c.args in
    let l = a.rec.now in
    let b : Bytes l = λ i. (c.type_inv.rec i).fits in
    let h = head_by (take header_size l) a.c in
    let f = the_front a.chain l a.c c.in_ok-links.links c.requires.0 c.in_ok-links.ensures in
    let ls = the_links l b a.c.links c.in_ok-links.links c.in_ok-properties.properties f.within c.in_ok-properties.ensures in
    rw c.from_residual-in_err-tags.ensures
    (ap (λ (j : Head). ended (output_on a.chain j (drop header_size l))) (sym (head_by_lem (take header_size l) a.c c.requires.1))
    ∙ bad-properties a.chain l h f ls (sym c.in_err-tags.ensures))

pub check_texts-requires-2 : goal.check_texts-requires-2
check_texts-requires-2 c =
    let a = c.args in
    let l = a.rec.now in
    let b : Bytes l = λ i. (c.type_inv.rec i).fits in
    let f = the_front a.chain l a.c c.in_ok-links.links c.requires.0 c.in_ok-links.ensures in
    let ls = the_links l b a.c.links c.in_ok-links.links c.in_ok-properties.properties f.within c.in_ok-properties.ensures in
    (the_properties l b a.c.properties c.in_ok-properties.properties c.in_ok-tags.tags ls.within c.in_ok-tags.ensures).within

pub returns-in_err-runs : goal.returns-in_err-runs
returns-in_err-runs c =
    let a = c.args in
    let l = a.rec.now in
    let b : Bytes l = λ i. (c.type_inv.rec i).fits in
    let h = head_by (take header_size l) a.c in
    let f = the_front a.chain l a.c c.in_ok-links.links c.requires.0 c.in_ok-links.ensures in
    let ls = the_links l b a.c.links c.in_ok-links.links c.in_ok-properties.properties f.within c.in_ok-properties.ensures in
    let ps = the_properties l b a.c.properties c.in_ok-properties.properties c.in_ok-tags.tags ls.within c.in_ok-tags.ensures in
    rw c.from_residual-in_err-runs.ensures
    (ap (λ (j : Head). ended (output_on a.chain j (drop header_size l))) (sym (head_by_lem (take header_size l) a.c c.requires.1))
    ∙ bad-tags a.chain l h f ls ps (sym c.in_err-runs.ensures))

pub check_runs-requires : goal.check_runs-requires
check_runs-requires c =
    let a = c.args in
    let l = a.rec.now in
    let b : Bytes l = λ i. (c.type_inv.rec i).fits in
    let f = the_front a.chain l a.c c.in_ok-links.links c.requires.0 c.in_ok-links.ensures in
    let ls = the_links l b a.c.links c.in_ok-links.links c.in_ok-properties.properties f.within c.in_ok-properties.ensures in
    let ps = the_properties l b a.c.properties c.in_ok-properties.properties c.in_ok-tags.tags ls.within c.in_ok-tags.ensures in
    (the_tags l b a.c.tags c.in_ok-tags.tags c.in_ok-runs.runs ps.within c.in_ok-runs.ensures).within

pub returns-in_err-end : goal.returns-in_err-end
returns-in_err-end c =
    let a = c.args in
    let l = a.rec.now in
    let b : Bytes l = λ i. (c.type_inv.rec i).fits in
    let h = head_by (take header_size l) a.c in
    let f = the_front a.chain l a.c c.in_ok-links.links c.requires.0 c.in_ok-links.ensures in
    let ls = the_links l b a.c.links c.in_ok-links.links c.in_ok-properties.properties f.within c.in_ok-properties.ensures in
    let ps = the_properties l b a.c.properties c.in_ok-properties.properties c.in_ok-tags.tags ls.within c.in_ok-tags.ensures in
    let ts = the_tags l b a.c.tags c.in_ok-tags.tags c.in_ok-runs.runs ps.within c.in_ok-runs.ensures in
    rw c.from_residual-in_err-end.ensures
    (ap (λ (j : Head). ended (output_on a.chain j (drop header_size l))) (sym (head_by_lem (take header_size l) a.c c.requires.1))
    ∙ bad-runs a.chain l h f ls ps ts (sym c.in_err-end.ensures))

pub returns-then-end-rec : goal.returns-then-end-rec
returns-then-end-rec c =
    let a = c.args in
    let l = a.rec.now in
    let b : Bytes l = λ i. (c.type_inv.rec i).fits in
    let h = head_by (take header_size l) a.c in
    let f = the_front a.chain l a.c c.in_ok-links.links c.requires.0 c.in_ok-links.ensures in
    let ls = the_links l b a.c.links c.in_ok-links.links c.in_ok-properties.properties f.within c.in_ok-properties.ensures in
    let ps = the_properties l b a.c.properties c.in_ok-properties.properties c.in_ok-tags.tags ls.within c.in_ok-tags.ensures in
    let ts = the_tags l b a.c.tags c.in_ok-tags.tags c.in_ok-runs.runs ps.within c.in_ok-runs.ensures in
    let rs = the_runs a.chain l b a.c.runs c.in_ok-runs.runs c.in_ok-end.end ts.within c.in_ok-end.ensures in
    let lay : Layout = record { links = c.in_ok-links.links; properties = c.in_ok-properties.properties; tags = c.in_ok-tags.tags; runs = c.in_ok-runs.runs; end = c.in_ok-end.end } in
    let read : ReadAt a.chain l h lay = record { front = f; links = ls; properties = ps; tags = ts; runs = rs } in
    ap (λ (j : Head). ended (output_on a.chain j (drop header_size l))) (sym (head_by_lem (take header_size l) a.c c.requires.1))
    ∙ bytes_left a.chain l h lay read c.if-end-rec.true

pub returns : goal.returns
returns c =
    let a = c.args in
    let l = a.rec.now in
    let b : Bytes l = λ i. (c.type_inv.rec i).fits in
    let h = head_by (take header_size l) a.c in
    let f = the_front a.chain l a.c c.in_ok-links.links c.requires.0 c.in_ok-links.ensures in
    let ls = the_links l b a.c.links c.in_ok-links.links c.in_ok-properties.properties f.within c.in_ok-properties.ensures in
    let ps = the_properties l b a.c.properties c.in_ok-properties.properties c.in_ok-tags.tags ls.within c.in_ok-tags.ensures in
    let ts = the_tags l b a.c.tags c.in_ok-tags.tags c.in_ok-runs.runs ps.within c.in_ok-runs.ensures in
    let rs = the_runs a.chain l b a.c.runs c.in_ok-runs.runs c.in_ok-end.end ts.within c.in_ok-end.ensures in
    let lay : Layout = record { links = c.in_ok-links.links; properties = c.in_ok-properties.properties; tags = c.in_ok-tags.tags; runs = c.in_ok-runs.runs; end = c.in_ok-end.end } in
    let read : ReadAt a.chain l h lay = record { front = f; links = ls; properties = ps; tags = ts; runs = rs } in (
      state_at a.chain l h lay read,
      ap (λ (j : Head). output_on a.chain j (drop header_size l)) (sym (head_by_lem (take header_size l) a.c c.requires.1)) ∙ none_left a.chain l h lay read c.if-end-rec.false,
      laid a.chain l h lay read,
      standing a.chain l h lay read a.c refl refl refl,
      same-apart a.chain l h lay read a.c refl refl refl,
    )
