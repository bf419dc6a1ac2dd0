-- A record is read back to the state that it was made of, and what was read was so made.
-- Assumes nothing.
use Prim.Native.Nat.{ℕ, ◌≤◌}
use mathlib.Core.Path.{◌≡◌, refl, sym, ap, ap₂, ◌∙◌, subst, subst₂}
use mathlib.Core.Bool.{Bool, true, false, ◌||◌, not}
use mathlib.Core.List.{List, [], ◌∷◌, ◌++◌, append_assoc, append-nil}
use Rattle.std.specs.Prelude.{Some, None}
use native.Mathlib.Omega.{arith}
use lib.ListN.{length}
use lib.Dec.{leb, eqb}
use borrow.Author.Tests.{le-leb, leb-true, eqb-true}
use Rattle.lists.specs.Lists.{cat, all}
use Rattle.lists.specs.Bytes.{Bytes, clean, distinct}
use Rattle.lists.proofs.Tests.{and_both}
use Rattle.lists.proofs.Bytes.{bytes_rest}
use Rattle.lists.proofs.Records.{bytes-first}
use Rattle.entries.specs.Parse.{Parse, got, bad, keep, bind, many}
use Rattle.entries.specs.Entry.{exactly, enc_text, one_text, Property, ok_prop, enc_prop, one_prop, keys}
use Rattle.entries.proofs.Rows.{through, many_there, many-back}
use Rattle.entries.proofs.Entries.{kept, exactly-back, text-laws, prop_laws}
use Rattle.outcome.specs.Head.{Head, header, head_of}
use Rattle.outcome.proofs.Head.{Fit, header-first, head_there, head_back, head_fits}
use Rattle.outcome.specs.Content.{ok_link, ok_owner, owner_byte, ok_output, others_write}
use Rattle.outcome.proofs.Parts.{mode_there, mode-set, mode_bits_lem, mode_okay, mode_small, mode-kept, set_small, set-or, sized_there, sized-back, run-laws}
use Rattle.outcome.specs.State.{Run, State, OkModeBits, ok_run, enc_run, one_run, ok_tag, head_for, encode, ok_head, apart, Good, read_head, state_of, one_sized, parts, ended, decode}

-- ---- what a good state's header is

owner_short : (x : List ℕ) → ok_owner x ≡ true → length x ≤ 32
owner_short x h = leb-true (length x) 32 (and_both (leb (length x) 32) (all owner_byte x) h).0

output_short : (x : List ℕ) → ok_output x ≡ true → length x ≤ 512
output_short x h = leb-true (length x) 512 (and_both (leb (length x) 512) (clean x) h).0

module _ (n : ℕ) where
  pub good_fit : (s : State) → Good n s → Fit (head_for s)
  good_fit s g =
      let o = owner_short s.owner g.owner in
      let p = owner_short s.group g.group in
      let q = output_short s.output g.output in
      record {
        edition = omega arith;
        owner = omega arith;
        group = omega arith;
        mode_set = set_small s.mode;
        mode = mode_small s.mode g.mode;
        priority = g.priority;
        links = omega (arith, g.links.few);
        properties = omega (arith, g.properties.few);
        tags = omega (arith, g.tags.few);
        runs = omega (arith, g.runs.few);
        output = omega arith;
        watch = omega (arith, g.watch);
        unused = omega arith;
      }

  good_head : (s : State) → Good n s → ok_head (head_for s) ≡ true
  good_head s g =
      rw (
        le-leb s.watch 2 g.watch,
        set-or s.mode,
        mode-kept s.mode g.mode,
        le-leb (length s.links) 16 g.links.few,
        le-leb (length s.properties) 32 g.properties.few,
        le-leb (length s.tags) 16 g.tags.few,
        le-leb (length s.runs) 16 g.runs.few,
      )

-- ---- what follows each part, before z
abbrev pub from_runs : State → List ℕ → List ℕ
from_runs s z = cat enc_run s.runs ++ z

abbrev pub from_tags : State → List ℕ → List ℕ
from_tags s z = cat enc_text s.tags ++ from_runs s z

abbrev pub from_props : State → List ℕ → List ℕ
from_props s z = cat enc_prop s.properties ++ from_tags s z

abbrev pub from_links : State → List ℕ → List ℕ
from_links s z = cat enc_text s.links ++ from_props s z

abbrev pub from_owner : State → List ℕ → List ℕ
from_owner s z = s.owner ++ (s.group ++ from_links s z)

abbrev pub from_output : State → List ℕ → List ℕ
from_output s z = s.output ++ from_owner s z

-- a record as its header and then its parts
pub laid : (s : State) (z : List ℕ) → encode s ++ z ≡ header (head_for s) ++ from_output s z
unfolding encode
laid s z = simp append_assoc

head_got : (h : Head) (r : List ℕ) → Fit h → ok_head h ≡ true → read_head (header h ++ r) ≡ got h r
head_got h r f o =
    ap (λ (x : Parse (List ℕ)). bind x (λ head r. keep (ok_head (head_of head)) (head_of head) r)) (header-first h r)
    ∙ ap (λ (x : Head). keep (ok_head x) x r) (head_there h f)
    ∙ ap (λ (x : Bool). keep x h r) o

-- a state made of its own parts
same-state : (s : State) → state_of (head_for s) s.output s.owner s.group s.links s.properties s.tags s.runs ≡ s
same-state s =
    let m = mode_there s.mode in
    λ i.
    record {
      closed = s.closed;
      owner = s.owner;
      group = s.group;
      mode = m i;
      priority = s.priority;
      output = s.output;
      watch = s.watch;
      links = s.links;
      properties = s.properties;
      tags = s.tags;
      runs = s.runs;
    }

module _ (n : ℕ) where
  pub parts_there : (s : State) (z : List ℕ) → Good n s → parts n (encode s ++ z) ≡ got s z
  parts_there s z g =
      rw (
        laid s z,
        head_got (head_for s) (from_output s z) (good_fit n s g) (good_head n s g),
        sized_there ok_output s.output (from_owner s z) g.output,
        sized_there ok_owner s.owner (s.group ++ from_links s z) g.owner,
        sized_there ok_owner s.group (from_links s z) g.group,
        many_there (text-laws ok_link) s.links (from_props s z) g.links.each,
        many_there prop_laws s.properties (from_tags s z) g.properties.each,
        many_there (text-laws ok_tag) s.tags (from_runs s z) g.tags.each,
        many_there (run-laws n) s.runs z g.runs.each,
        same-state s,
      )

  pub there : (s : State) → Good n s → decode n (encode s) ≡ Some s
  unfolding decode
  there s g = ap (decode n) (sym (append-nil (encode s))) ∙ ap ended (parts_there s [] g) ∙ rw (g.links.apart, g.properties.apart, g.tags.apart, ended)

-- what a list of bytes is, of which s was read
pub record Read (n : ℕ) (bs : List ℕ) (s : State) (z : List ℕ) : Type 0 where
  pub eq : bs ≡ encode s ++ z
  pub fit : Fit (head_for s)
  pub head : ok_head (head_for s) ≡ true
  pub output : ok_output s.output ≡ true
  pub owner : ok_owner s.owner ≡ true
  pub group : ok_owner s.group ≡ true
  pub mode : OkModeBits s.mode
  pub links : all ok_link s.links ≡ true
  pub properties : all ok_prop s.properties ≡ true
  pub tags : all ok_tag s.tags ≡ true
  pub runs : all (ok_run n) s.runs ≡ true

-- the header of a state that was read is the one that was read
same_head : (h : Head) (x o g : List ℕ) (ls : List (List ℕ)) (ps : List Property) (ts : List (List ℕ)) (rs : List Run) → Fit h → ok_head h ≡ true
    → length x ≡ h.output → length o ≡ h.owner → length g ≡ h.group → length ls ≡ h.links → length ps ≡ h.properties → length ts ≡ h.tags → length rs ≡ h.runs
    → head_for (state_of h x o g ls ps ts rs) ≡ h
same_head h x o g ls ps ts rs f k lx lo lg ll lp lt lr =
    let a = and_both (eqb h.edition 2) _ k in
    let u = and_both (leb h.watch 2) _ a.1 in
    let v = and_both (eqb h.unused 0) _ u.1 in
    let b = and_both (eqb h.mode_set 1 || eqb h.mode 0) _ v.1 in
    let ed : 2 ≡ h.edition = sym (eqb-true h.edition 2 a.0) in
    let un : 0 ≡ h.unused = sym (eqb-true h.unused 0 v.0) in
    let ms = mode-set h.mode_set h.mode f.mode_set in
    let mb = mode_bits_lem h.mode_set h.mode b.0 in
    λ j.
    record {
      edition = ed j;
      closed = h.closed;
      owner = lo j;
      group = lg j;
      mode_set = ms j;
      mode = mb j;
      priority = h.priority;
      links = ll j;
      properties = lp j;
      tags = lt j;
      runs = lr j;
      output = lx j;
      watch = h.watch;
      unused = un j;
    }

head_kept : (h : Head) → ok_head h ≡ true → not (others_write h.mode) ≡ true
head_kept h k =
    let a = and_both (eqb h.edition 2) _ k in
    let u = and_both (leb h.watch 2) _ a.1 in
    let v = and_both (eqb h.unused 0) _ u.1 in
    let b = and_both (eqb h.mode_set 1 || eqb h.mode 0) _ v.1 in
    (and_both (not (others_write h.mode)) _ b.1).0

module _ (n : ℕ) where
  parts-back : (bs : List ℕ) (s : State) (z : List ℕ) → Bytes bs → parts n bs ≡ got s z → Read n bs s z
  parts-back bs s z b e =
      through (read_head bs) _ s z e λ h r₀ p₀ e₀.
      through (one_sized ok_output h.output r₀) _ s z e₀ λ x r' p' e'.
      through (one_sized ok_owner h.owner r') _ s z e' λ o r₁ p₁ e₁.
      through (one_sized ok_owner h.group r₁) _ s z e₁ λ g r₂ p₂ e₂.
      through (many (one_text ok_link) h.links r₂) _ s z e₂ λ ls r₃ p₃ e₃.
      through (many one_prop h.properties r₃) _ s z e₃ λ ps r₄ p₄ e₄.
      through (many (one_text ok_tag) h.tags r₄) _ s z e₄ λ ts r₅ p₅ e₅.
      through (many (one_run n) h.runs r₅) _ s z e₅ λ rs r₆ p₆ e₆.
      through (exactly 13 bs) _ h r₀ p₀ λ head q p₇ e₇.
      let (t, hh, hr) = kept (ok_head (head_of head)) (head_of head) h q r₀ e₇ in
      let (qh, l) = exactly-back 13 bs head q p₇ in
      let (q', n', o') = sized-back ok_output h.output r₀ x r' p' in
      let (q₀, n₀, o₀) = sized-back ok_owner h.owner r' o r₁ p₁ in
      let (q₁, n₁, o₁) = sized-back ok_owner h.group r₁ g r₂ p₂ in
      let w : bs ≡ head ++ r₀ = qh ∙ ap (λ (x : List ℕ). head ++ x) hr in
      let bh : Bytes head = bytes-first head r₀ (subst Bytes w b) in
      let b₀ : Bytes r₀ = bytes_rest head r₀ (subst Bytes w b) in
      let b' : Bytes r' = bytes_rest x r' (subst Bytes q' b₀) in
      let b₁ : Bytes r₁ = bytes_rest o r₁ (subst Bytes q₀ b') in
      let b₂ : Bytes r₂ = bytes_rest g r₂ (subst Bytes q₁ b₁) in
      let (q₂, k₂, n₂) = many-back (text-laws ok_link) h.links r₂ ls r₃ b₂ p₃ in
      let b₃ : Bytes r₃ = bytes_rest (cat enc_text ls) r₃ (subst Bytes q₂ b₂) in
      let (q₃, k₃, n₃) = many-back prop_laws h.properties r₃ ps r₄ b₃ p₄ in
      let b₄ : Bytes r₄ = bytes_rest (cat enc_prop ps) r₄ (subst Bytes q₃ b₃) in
      let (q₄, k₄, n₄) = many-back (text-laws ok_tag) h.tags r₄ ts r₅ b₄ p₅ in
      let b₅ : Bytes r₅ = bytes_rest (cat enc_text ts) r₅ (subst Bytes q₄ b₄) in
      let (q₅, k₅, n₅) = many-back (run-laws n) h.runs r₅ rs r₆ b₅ p₆ in
      let v : State = state_of h x o g ls ps ts rs in
      let fh : Fit h = subst Fit hh (head_fits head) in
      let kh = head_kept h (ap ok_head (sym hh) ∙ t) in
      let f : head_for v ≡ h = same_head h x o g ls ps ts rs fh (ap ok_head (sym hh) ∙ t) n' n₀ n₁ n₂ n₃ n₄ n₅ in
      let fv : Fit (head_for v) = subst Fit (sym f) fh in
      let from : r₀ ≡ from_output v r₆ =
      q'
      ∙ ap (λ (y : List ℕ). x ++ y) q₀
      ∙ ap (λ (y : List ℕ). x ++ (o ++ y)) q₁
      ∙ ap (λ (y : List ℕ). x ++ (o ++ (g ++ y))) q₂
      ∙ ap (λ (y : List ℕ). x ++ (o ++ (g ++ (cat enc_text ls ++ y)))) q₃
      ∙ ap (λ (y : List ℕ). x ++ (o ++ (g ++ (cat enc_text ls ++ (cat enc_prop ps ++ y))))) q₄
      ∙ ap (λ (y : List ℕ). x ++ (o ++ (g ++ (cat enc_text ls ++ (cat enc_prop ps ++ (cat enc_text ts ++ y)))))) q₅
      in
      let eq : bs ≡ encode v ++ r₆ =
      w
      ∙ ap₂ (λ (x y : List ℕ). x ++ y) (sym (head_back head bh l)) from
      ∙ ap (λ (x : Head). header x ++ from_output v r₆) (hh ∙ sym f)
      ∙ sym (laid v r₆)
      in
      let read : Read n bs v r₆ =
      record {
        eq = eq;
        fit = fv;
        head = ap ok_head (f ∙ sym hh) ∙ t;
        output = o';
        owner = o₀;
        group = o₁;
        mode = mode_okay h.mode_set h.mode (record { small = fh.mode; kept = kh });
        links = k₂;
        properties = k₃;
        tags = k₄;
        runs = k₅;
      }
      in
      subst₂ (λ (x : State) (y : List ℕ). Read n bs x y) (got-first v s r₆ z e₆) (got_second v s r₆ z e₆) read
    where
      got-first : (v s : State) (r z : List ℕ) → got v r ≡ got s z → v ≡ s
      got-first v s r z e = cc

      got_second : (v s : State) (r z : List ℕ) → got v r ≡ got s z → r ≡ z
      got_second v s r z e = cc

-- reading to the end: nothing is left, and no entry stands twice
ended-back : (p : Parse State) (s : State) → ended p ≡ Some s → (p ≡ got s []) × (apart s ≡ true)
ended-back bad s e = let z : ◌≡◌ {A = ℕ} 0 1 = cc in absurd (omega arith)
ended-back (got v (b ∷ bs)) s e = let z : ◌≡◌ {A = ℕ} 0 1 = cc in absurd (omega arith)
ended-back (got v []) s e = at (apart v) refl e
  where
    at : (t : Bool) → apart v ≡ t → ended (got v []) ≡ Some s → (got v [] ≡ got s []) × (apart s ≡ true)
    at true h e = let q : Some v ≡ Some s = rw (h, ended) at e in let w : v ≡ s = cc in (ap (λ (x : State). got x []) w, ap apart (sym w) ∙ h)
    at false h e = let q : None ≡ Some s = rw (h, ended) at e in let z : ◌≡◌ {A = ℕ} 0 1 = cc in absurd (omega arith)

good_of : (n : ℕ) (bs : List ℕ) (s : State) (z : List ℕ) → Read n bs s z → apart s ≡ true → Good n s
good_of n bs s z r t =
    let h = head_for s in
    let w = and_both (leb h.watch 2) _ r.head in
    let d = and_both (eqb h.mode_set 1 || eqb h.mode 0) _ w.1 in
    let k = and_both (not (others_write h.mode)) _ d.1 in
    let e = and_both (leb h.links 16) _ k.1 in
    let f = and_both (leb h.properties 32) _ e.1 in
    let i = and_both (leb h.tags 16) (leb h.runs 16) f.1 in
    let u = and_both (distinct s.links) _ t in
    let v = and_both (distinct (keys s.properties)) (distinct s.tags) u.1 in
    record {
      owner = r.owner;
      group = r.group;
      mode = r.mode;
      priority = r.fit.priority;
      output = r.output;
      watch = leb-true _ _ w.0;
      links = record { few = leb-true _ _ e.0; each = r.links; apart = u.0 };
      properties = record { few = leb-true _ _ f.0; each = r.properties; apart = v.0 };
      tags = record { few = leb-true _ _ i.0; each = r.tags; apart = v.1 };
      runs = record { few = leb-true _ _ i.1; each = r.runs };
    }

pub back : (n : ℕ) (bs : List ℕ) (s : State) → Bytes bs → decode n bs ≡ Some s → (encode s ≡ bs) × Good n s
unfolding decode
back n bs s b e =
    let (p, a) = ended-back (parts n bs) s e in
    let r = parts-back n bs s [] b p in
    (sym (r.eq ∙ append-nil (encode s)), good_of n bs s [] r a)

-- a record is of one state
pub only : (n : ℕ) (s t : State) → Good n s → Good n t → encode s ≡ encode t → s ≡ t
only n s t g h e = let p : Some s ≡ Some t = sym (there n s g) ∙ ap (decode n) e ∙ there n t h in cc

-- document 02, Item 8: no accepted record has a mode that lets others write
pub not-shared : (n : ℕ) (bs : List ℕ) (s : State) (m : ℕ) → Bytes bs → decode n bs ≡ Some s → s.mode ≡ Some m → not (others_write m) ≡ true
not-shared n bs s m b e q = let k : OkModeBits (Some m) = subst OkModeBits q (back n bs s b e).1.mode in k.kept
