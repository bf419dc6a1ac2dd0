-- The parts of a record one after another, in the places that code has.
-- Assumes nothing.
use Prim.Native.Nat.{ℕ, ◌+◌, ◌-◌, ◌≤◌, ◌<◌}
use mathlib.Core.Path.{◌≡◌, refl, sym, ap, ap₂, ◌∙◌, subst}
use mathlib.Core.Bool.{Bool, true, false, ◌&&◌}
use mathlib.Core.List.{List, [], ◌∷◌, ◌++◌, map}
use Rattle.std.specs.Prelude.{Option, None, Some}
use native.Mathlib.Omega.{arith}
use borrow.Author.Tests.{leb-true}
use lib.Dec.{leb}
use lib.ListN.{length, take, drop, length-append, length-drop, drop_of_length-le}
use lib.Seq.{drop-drop, drop_at, length-take-le}
use Rattle.lists.specs.Lists.{all, cat}
use Rattle.lists.specs.Bytes.{Bytes, distinct}
use Rattle.lists.proofs.Moves.{ap_at, bytes_drop}
use Rattle.lists.proofs.Rest.{rest_at}
use Rattle.lists.proofs.Tests.{and_both}
use Rattle.entries.specs.Parse.{Parse, got, bad, bind, many}
use Rattle.entries.specs.Entry.{enc_text, one_text, Property, ok_prop, enc_prop, one_prop, keys}
use Rattle.entries.proofs.Rows.{Laws, many-back}
use Rattle.entries.proofs.Entries.{kept, text-laws, prop_laws}
use Rattle.rows.specs.Row.{Row, names, end_of}
use Rattle.rows.specs.declared.Kind.TheVariants as kind
use Rattle.rows.proofs.Readers.{text-reads, property-reads, many-row, many-names, end-bad}
use Rattle.outcome.specs.Head.{Head, header_size}
use Rattle.outcome.specs.Content.{ok_link, ok_owner, ok_output}
use Rattle.outcome.specs.State.{State, Run, ok_tag, ok_run, enc_run, one_run, one_sized, state_of, output_on, owner_on, group_on, links_on, apart, ended}
use Rattle.outcome.proofs.Parts.{run-laws}
use Rattle.outcome_target.specs.Layout.{layout_of}
use Rattle.outcome_target.specs.declared.Layout.{Layout}
use Rattle.outcome_check.specs.Check.{Standing, apart_in}
use Rattle.outcome_check.specs.declared.Counts.{Counts}

-- ---- one part

end-got : {A : Type 0} (n q : ℕ) (p : Parse A) → end_of n p ≡ Some q → (a : A) × (r : List ℕ) × (p ≡ got a r) × (n - length r ≡ q)
end-got n q (got a r) e = (a, r, refl, cc)
end-got n q bad e = let z : ◌≡◌ {A = ℕ} 0 1 = cc in absurd (omega arith)

-- a text of k bytes was read, from `at` up to p
pub record SizedAt (l : List ℕ) (ok : List ℕ → Bool) (k at p : ℕ) : Type 0 where
  pub read : one_sized ok k (drop at l) ≡ got (take k (drop at l)) (drop p l)
  pub count : length (take k (drop at l)) ≡ k
  pub ends : p ≡ at + k
  pub within : p ≤ length l

pub sized_at : (l : List ℕ) (ok : List ℕ → Bool) (k at p : ℕ) → at ≤ length l → end_of (length l) (one_sized ok k (drop at l)) ≡ Some p → SizedAt l ok k at p
sized_at l ok k at p h e =
    let (x, r, w, q) = end-got (length l) p (one_sized ok k (drop at l)) e in
    let (t, a, b) = kept (leb k (length (drop at l)) && ok (take k (drop at l))) (take k (drop at l)) x (drop k (drop at l)) r w in
    let m : k ≤ length (drop at l) = leb-true k (length (drop at l)) (and_both (leb k (length (drop at l))) (ok (take k (drop at l))) t).0 in
    made x r w q a b m
  where
    made : (x r : List ℕ) → one_sized ok k (drop at l) ≡ got x r → length l - length r ≡ p → take k (drop at l) ≡ x → drop k (drop at l) ≡ r → k ≤ length (drop at l) → SizedAt l ok k at p
    made x r w q a b m =
        let s : p ≡ at + k = omega (arith, length-drop at l, length-drop k (drop at l), ap length b) in
        let d : r ≡ drop p l = sym b ∙ drop-drop k at l ∙ ap (λ (i : ℕ). drop i l) (sym s) in
        record {
          read = w ∙ ap₂ (λ (y z : List ℕ). got y z) (sym a) d;
          count = length-take-le k (drop at l) m;
          ends = s;
          within = omega (arith, length-drop at l);
        }

-- n entries were read, from `at` up to p
pub record RowAt (l : List ℕ) (A : Type 0) (enc : A → List ℕ) (one : List ℕ → Parse A) (n at p : ℕ) : Type 0 where
  pub xs : List A
  pub read : many one n (drop at l) ≡ got xs (drop p l)
  pub ends : p ≡ at + length (cat enc xs)
  pub within : p ≤ length l

pub row_at : (l : List ℕ) → Bytes l → {A : Type 0} {enc : A → List ℕ} {ok : A → Bool} {one : List ℕ → Parse A} → Laws A enc ok one → (n at p : ℕ)
    → at ≤ length l → end_of (length l) (many one n (drop at l)) ≡ Some p → RowAt l A enc one n at p
row_at l b {A} {enc} {ok} {one} W n at p h e =
    let (xs, r, w, q) = end-got (length l) p (many one n (drop at l)) e in
    let (s, f, c) = many-back W n (drop at l) xs r (bytes_drop at l b) w in
    made xs r w q s
  where
    made : (xs : List A) (r : List ℕ) → many one n (drop at l) ≡ got xs r → length l - length r ≡ p → drop at l ≡ cat enc xs ++ r → RowAt l A enc one n at p
    made xs r w q s =
        let m : length l - at ≡ length (cat enc xs) + length r = sym (length-drop at l) ∙ ap length s ∙ length-append (cat enc xs) r in
        let e : p ≡ at + length (cat enc xs) = omega arith in
        let d : r ≡ drop p l =
        sym (drop_at (cat enc xs) r (length (cat enc xs)) refl)
        ∙ ap (drop (length (cat enc xs))) (sym s)
        ∙ drop-drop (length (cat enc xs)) at l
        ∙ ap (λ (i : ℕ). drop i l) (sym e)
        in
        record { xs = xs; read = w ∙ ap (λ (i : List ℕ). got xs i) d; ends = e; within = omega arith }

-- ---- all of them

map-id : (xs : List (List ℕ)) → map (λ (x : List ℕ). x) xs ≡ xs
map-id [] = refl
map-id (x ∷ xs) = ap (λ (l : List (List ℕ)). x ∷ l) (map-id xs)

abbrev pub LinksAt : List ℕ → ℕ → ℕ → ℕ → Type 0
LinksAt l n at p = RowAt l (List ℕ) enc_text (one_text ok_link) n at p

abbrev pub PropertiesAt : List ℕ → ℕ → ℕ → ℕ → Type 0
PropertiesAt l n at p = RowAt l Property enc_prop one_prop n at p

abbrev pub TagsAt : List ℕ → ℕ → ℕ → ℕ → Type 0
TagsAt l n at p = RowAt l (List ℕ) enc_text (one_text ok_tag) n at p

abbrev pub RunsAt : List ℕ → ℕ → ℕ → ℕ → ℕ → Type 0
RunsAt l k n at p = RowAt l Run enc_run (one_run k) n at p

-- ---- output, owner and group

abbrev front_of : Head → List ℕ → Parse (List ℕ)
front_of h bs = bind (one_sized ok_output h.output bs) (λ x q. bind (one_sized ok_owner h.owner q) (λ o r. one_sized ok_owner h.group r))

module _ (l : List ℕ) (h : Head) where
  pub no_output : end_of (length l) (one_sized ok_output h.output (drop header_size l)) ≡ None → end_of (length l) (front_of h (drop header_size l)) ≡ None
  no_output e = rw (end-bad (length l) (one_sized ok_output h.output (drop header_size l)) e)

  module _ {p₁ : ℕ} (x : SizedAt l ok_output h.output header_size p₁) where
    pub no-owner : end_of (length l) (one_sized ok_owner h.owner (drop p₁ l)) ≡ None → end_of (length l) (front_of h (drop header_size l)) ≡ None
    no-owner e = rw (x.read, end-bad (length l) (one_sized ok_owner h.owner (drop p₁ l)) e)

    pub up_to-group : {p₂ : ℕ} → SizedAt l ok_owner h.owner p₁ p₂ → end_of (length l) (one_sized ok_owner h.group (drop p₂ l)) ≡ end_of (length l) (front_of h (drop header_size l))
    up_to-group o = rw (x.read, o.read)

-- all three were read, up to p
pub record FrontAt (k : ℕ) (l : List ℕ) (h : Head) (p : ℕ) : Type 0 where
  pub output : List ℕ
  pub owner : List ℕ
  pub group : List ℕ
  pub read : output_on k h (drop header_size l) ≡ links_on k h output owner group (drop p l)
  pub ends : p ≡ header_size + length output + length owner + length group
  pub within : p ≤ length l

bind-end : {A B : Type 0} (n q : ℕ) (p : Parse A) (f : A → List ℕ → Parse B) → end_of n (bind p f) ≡ Some q → (a : A) × (r : List ℕ) × (p ≡ got a r) × (end_of n (f a r) ≡ Some q)
bind-end n q (got a r) f e = (a, r, refl, e)
bind-end n q bad f e = let z : ◌≡◌ {A = ℕ} 0 1 = cc in absurd (omega arith)

-- where a text stands that was read
sized-got : (l : List ℕ) (ok : List ℕ → Bool) (k at : ℕ) (x r : List ℕ) → at ≤ length l → one_sized ok k (drop at l) ≡ got x r
    → (r ≡ drop (at + k) l) × (length x ≡ k) × (at + k ≤ length l)
sized-got l ok k at x r h w =
    let (t, a, b) = kept (leb k (length (drop at l)) && ok (take k (drop at l))) (take k (drop at l)) x (drop k (drop at l)) r w in
    let m : k ≤ length (drop at l) = leb-true k (length (drop at l)) (and_both (leb k (length (drop at l))) (ok (take k (drop at l))) t).0 in
    (sym b ∙ drop-drop k at l, sym (ap length a) ∙ length-take-le k (drop at l) m, omega (arith, length-drop at l))

pub front_at : (k : ℕ) (l : List ℕ) (h : Head) (p : ℕ) → header_size ≤ length l → end_of (length l) (front_of h (drop header_size l)) ≡ Some p → FrontAt k l h p
front_at k l h p m e =
    let (x, r₁, w₁, e₁) = bind-end (length l) p (one_sized ok_output h.output (drop header_size l)) _ e in
    let (o, r₂, w₂, e₂) = bind-end (length l) p (one_sized ok_owner h.owner r₁) _ e₁ in
    let (g, r₃, w₃, q) = end-got (length l) p (one_sized ok_owner h.group r₂) e₂ in
    let (d₁, n₁, m₁) = sized-got l ok_output h.output header_size x r₁ m w₁ in
    let (d₂, n₂, m₂) = sized-got l ok_owner h.owner (header_size + h.output) o r₂ m₁ (ap (one_sized ok_owner h.owner) (sym d₁) ∙ w₂) in
    let (d₃, n₃, m₃) = sized-got l ok_owner h.group (header_size + h.output + h.owner) g r₃ m₂ (ap (one_sized ok_owner h.group) (sym d₂) ∙ w₃) in
    let ends : p ≡ header_size + h.output + h.owner + h.group = omega (arith, length-drop (header_size + h.output + h.owner + h.group) l, ap length d₃) in
    record {
      output = x;
      owner = o;
      group = g;
      read =
          ap (λ (z : Parse (List ℕ)). bind z (owner_on k h)) w₁
          ∙ ap (λ (z : Parse (List ℕ)). bind z (group_on k h x)) w₂
          ∙ ap (λ (z : Parse (List ℕ)). bind z (links_on k h x o)) w₃
          ∙ ap (links_on k h x o g) (d₃ ∙ ap (λ (i : ℕ). drop i l) (sym ends));
      ends = omega arith;
      within = omega arith;
    }

-- where one of them is faulty, nothing is read
bind-bad : {A B C : Type 0} (p : Parse A) (f : A → List ℕ → Parse B) (g : A → List ℕ → Parse C) → ((a : A) (r : List ℕ) → f a r ≡ bad → g a r ≡ bad) → bind p f ≡ bad → bind p g ≡ bad
bind-bad (got a r) f g h e = h a r e
bind-bad bad f g h e = refl

pub bad-front : (k : ℕ) (l : List ℕ) (h : Head) → end_of (length l) (front_of h (drop header_size l)) ≡ None → ended (output_on k h (drop header_size l)) ≡ None
bad-front k l h e =
    ap ended
    (bind-bad (one_sized ok_output h.output (drop header_size l)) (λ x q. bind (one_sized ok_owner h.owner q) (λ o r. one_sized ok_owner h.group r)) (owner_on k h)
    (λ x q. bind-bad (one_sized ok_owner h.owner q) (λ o r. one_sized ok_owner h.group r) (group_on k h x) (λ o r f. rw (f)))
    (end-bad (length l) (front_of h (drop header_size l)) e))

-- ---- the rows behind them

module _ (k : ℕ) (l : List ℕ) (h : Head) {p₂ : ℕ} (f : FrontAt k l h p₂) where
  pub bad-links : end_of (length l) (many (one_text ok_link) h.links (drop p₂ l)) ≡ None → ended (output_on k h (drop header_size l)) ≡ None
  bad-links e = rw (f.read, end-bad (length l) (many (one_text ok_link) h.links (drop p₂ l)) e)

  module _ {p₃ : ℕ} (ls : LinksAt l h.links p₂ p₃) where
    pub bad-properties : end_of (length l) (many one_prop h.properties (drop p₃ l)) ≡ None → ended (output_on k h (drop header_size l)) ≡ None
    bad-properties e = rw (f.read, ls.read, end-bad (length l) (many one_prop h.properties (drop p₃ l)) e)

    module _ {p₄ : ℕ} (ps : PropertiesAt l h.properties p₃ p₄) where
      pub bad-tags : end_of (length l) (many (one_text ok_tag) h.tags (drop p₄ l)) ≡ None → ended (output_on k h (drop header_size l)) ≡ None
      bad-tags e = rw (f.read, ls.read, ps.read, end-bad (length l) (many (one_text ok_tag) h.tags (drop p₄ l)) e)

      module _ {p₅ : ℕ} (ts : TagsAt l h.tags p₄ p₅) where
        pub bad-runs : end_of (length l) (many (one_run k) h.runs (drop p₅ l)) ≡ None → ended (output_on k h (drop header_size l)) ≡ None
        bad-runs e = rw (f.read, ls.read, ps.read, ts.read, end-bad (length l) (many (one_run k) h.runs (drop p₅ l)) e)

-- every part was read, in the places of a layout
pub record ReadAt (k : ℕ) (l : List ℕ) (h : Head) (lay : Layout) : Type 0 where
  pub front : FrontAt k l h lay.links
  pub links : LinksAt l h.links lay.links lay.properties
  pub properties : PropertiesAt l h.properties lay.properties lay.tags
  pub tags : TagsAt l h.tags lay.tags lay.runs
  pub runs : RunsAt l k h.runs lay.runs lay.end

module _ (k : ℕ) (l : List ℕ) (h : Head) (lay : Layout) (r : ReadAt k l h lay) where
  abbrev pub state_at : State
  state_at = state_of h r.front.output r.front.owner r.front.group r.links.xs r.properties.xs r.tags.xs r.runs.xs

  all_read : output_on k h (drop header_size l) ≡ got state_at (drop lay.end l)
  all_read = rw (r.front.read, r.links.read, r.properties.read, r.tags.read, r.runs.read)

  pub bytes_left : lay.end < length l → ended (output_on k h (drop header_size l)) ≡ None
  bytes_left m = rw (all_read, rest_at l lay.end m)

  pub none_left : length l ≤ lay.end → output_on k h (drop header_size l) ≡ got state_at []
  none_left m = all_read ∙ ap (λ (q : List ℕ). got state_at q) (drop_of_length-le l m)

  pub laid : lay ≡ layout_of state_at
  unfolding layout_of
  laid =
      let links = header_size + length r.front.output + length r.front.owner + length r.front.group in
      let properties = links + length (cat enc_text r.links.xs) in
      let tags = properties + length (cat enc_prop r.properties.xs) in
      let runs = tags + length (cat enc_text r.tags.xs) in
      let e₂ : lay.links ≡ links = r.front.ends in
      let e₃ : lay.properties ≡ properties = omega (arith, r.links.ends) in
      let e₄ : lay.tags ≡ tags = omega (arith, r.properties.ends) in
      let e₅ : lay.runs ≡ runs = omega (arith, r.tags.ends) in
      let e₆ : lay.end ≡ runs + length (cat enc_run r.runs.xs) = omega (arith, r.runs.ends) in
      λ i. record { links = e₂ i; properties = e₃ i; tags = e₄ i; runs = e₅ i; end = e₆ i }

  module _ (c : Counts) (el : c.links ≡ h.links) (ep : c.properties ≡ h.properties) (et : c.tags ≡ h.tags) where
    abbrev from : ℕ → List ℕ
    from p = drop p l

    pub standing : Standing l c lay
    standing =
        record {
          links_in = r.front.within;
          links = subst (λ (i : ℕ). Row kind.Text i (from lay.links)) (sym el) (many-row (text-reads ok_link) h.links (from lay.links) r.links.xs (from lay.properties) r.links.read);
          properties_in = r.links.within;
          properties = subst (λ (i : ℕ). Row kind.Property i (from lay.properties)) (sym ep) (many-row property-reads h.properties (from lay.properties) r.properties.xs (from lay.tags) r.properties.read);
          tags_in = r.properties.within;
          tags = subst (λ (i : ℕ). Row kind.Text i (from lay.tags)) (sym et) (many-row (text-reads ok_tag) h.tags (from lay.tags) r.tags.xs (from lay.runs) r.tags.read);
        }

    pub same-apart : apart_in l c lay ≡ apart state_at
    same-apart =
        let a : names kind.Text c.links (from lay.links) ≡ r.links.xs =
        ap (λ (i : ℕ). names kind.Text i (from lay.links)) el
        ∙ many-names (text-reads ok_link) (λ (x : List ℕ). x) (λ bs. refl) h.links (from lay.links) r.links.xs (from lay.properties) r.links.read
        ∙ map-id r.links.xs
        in
        let b : names kind.Property c.properties (from lay.properties) ≡ keys r.properties.xs =
        ap (λ (i : ℕ). names kind.Property i (from lay.properties)) ep
        ∙ many-names property-reads (λ (p : Property). p.key) (λ bs. refl) h.properties (from lay.properties) r.properties.xs (from lay.tags) r.properties.read
        in
        let d : names kind.Text c.tags (from lay.tags) ≡ r.tags.xs =
        ap (λ (i : ℕ). names kind.Text i (from lay.tags)) et
        ∙ many-names (text-reads ok_tag) (λ (x : List ℕ). x) (λ bs. refl) h.tags (from lay.tags) r.tags.xs (from lay.runs) r.tags.read
        ∙ map-id r.tags.xs
        in
        rw (a, b, d)
