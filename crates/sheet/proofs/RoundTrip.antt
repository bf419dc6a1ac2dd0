-- Document 02, Item 6: a sheet is read back from its bytes, what was read was so written, refusal 6 is for all other bytes and no more, and
-- the layout takes no more than the 8 bytes allowed for the sheet, and for each of its entries, beside the texts.
-- Assumes nothing.
use Prim.Native.Nat.{ℕ, suc, ◌+◌, ◌*◌, ◌≤◌}
use mathlib.Core.Path.{◌≡◌, refl, sym, ap, ap₂, ◌∙◌, subst}
use mathlib.Core.Logic.{◌↔◌}
use mathlib.Core.Bool.{Bool, true, false, ◌&&◌}
use mathlib.Core.List.{List, [], ◌∷◌, ◌++◌, append_assoc, append-nil}
use Rattle.std.specs.Prelude.{Option, Some, None}
use native.Mathlib.Omega.{arith}
use lib.ListN.{length, take, drop, length-append, take-append-drop}
use lib.Seq.{take-append_seam, drop-append_seam, length-take-le}
use lib.Dec.{leb, eqb}
use borrow.Author.Tests.{le-leb, leb-true, eqb-true}
use Rattle.lists.specs.Lists.{cat}
use Rattle.lists.specs.Bytes.{Bytes, clean, distinct, ok_text}
use Rattle.lists.specs.Sizes.{most_sheet, most_replies}
use Rattle.lists.proofs.Tests.{and_both, both_and}
use Rattle.lists.proofs.Records.{bytes-first}
use Rattle.bits.specs.Bits.{number_at}
use Rattle.bits.specs.Fields.{Field, packed, fields_at, flag_at}
use Rattle.bits.proofs.Fields.{length-packed, bit_small, eqb-bit, bit-flag}
use Rattle.entries.specs.Parse.{Parse, got, bad, bind, many}
use Rattle.entries.specs.Entry.{exactly}
use Rattle.entries.proofs.Rows.{Laws, through, many_there, many-back}
use Rattle.entries.proofs.Heads.{number_of, head_read, head_back}
use Rattle.entries.proofs.Entries.{kept, keep_there, exactly-back, head_there}
use Rattle.sheet.specs.Promise.{Packing, SheetPacked}
use Rattle.sheet.specs.Sheet.{Reply, Sheet, ok_reply, reply_fields, enc_reply, encode, reply_at, reply_on, one_reply, commands_of, whole, ended, decode, Good, texts}

-- ---- one entry

pub reply_sizes : (r : Reply) → ok_reply r ≡ true → (length r.command ≤ 512) × (length r.output ≤ 512)
reply_sizes r o =
    let (o₁, o₂) = and_both (ok_text 512 r.command) _ o in
    let (o₃, o₄) = and_both (leb 1 (length r.command)) _ o₁ in
    let (o₅, _) = and_both (leb (length r.command) 512) _ o₄ in
    let (o₆, _) = and_both (leb (length r.output) 512) (clean r.output) o₂ in
    (leb-true (length r.command) 512 o₅, leb-true (length r.output) 512 o₆)

pub reply_output : (r : Reply) → ok_reply r ≡ true → clean r.output ≡ true
reply_output r o =
    let (_, o₂) = and_both (ok_text 512 r.command) _ o in
    (and_both (leb (length r.output) 512) (clean r.output) o₂).1

drop_both : (x y z : List ℕ) → drop (length x + length y) (x ++ (y ++ z)) ≡ z
drop_both x y z =
    ap (drop (length x + length y)) (sym (append_assoc x y z))
    ∙ ap (λ (i : ℕ). drop i ((x ++ y) ++ z)) (sym (length-append x y))
    ∙ drop-append_seam (x ++ y) z

reply_there : (r : Reply) (z : List ℕ) → ok_reply r ≡ true → one_reply (enc_reply r ++ z) ≡ got r z
reply_there r z o =
    let k = length r.command in
    let m = length r.output in
    let fs : List Field = reply_fields r in
    let head : List ℕ = packed fs in
    let t : List ℕ = r.command ++ (r.output ++ z) in
    let (hk, hm) = reply_sizes r o in
    let e : fields_at head 0 (1 ∷ 10 ∷ 10 ∷ 3 ∷ []) ≡ fs = head_read fs 3 refl (bit_small r.success, (omega arith, (omega arith, (omega arith, tt)))) in
    let e₀ : flag_at head 0 ≡ r.success = ap (λ (l : List Field). eqb (number_of 0 l) 1) e ∙ eqb-bit r.success in
    let e₁ : number_at head 1 10 ≡ k = ap (number_of 1) e in
    let e₂ : number_at head 11 10 ≡ m = ap (number_of 2) e in
    let e₃ : take (number_at head 1 10) t ≡ r.command = ap (λ (i : ℕ). take i t) e₁ ∙ take-append_seam r.command (r.output ++ z) in
    let e₄ : drop (number_at head 1 10) t ≡ r.output ++ z = ap (λ (i : ℕ). drop i t) e₁ ∙ drop-append_seam r.command (r.output ++ z) in
    let e₅ : take (number_at head 11 10) (drop (number_at head 1 10) t) ≡ r.output = ap₂ (λ (i : ℕ) (x : List ℕ). take i x) e₂ e₄ ∙ take-append_seam r.output z in
    let e₆ : drop (number_at head 1 10 + number_at head 11 10) t ≡ z = ap₂ (λ (i j : ℕ). drop (i + j) t) e₁ e₂ ∙ drop_both r.command r.output z in
    let q : reply_at head t ≡ r = λ i. record { success = e₀ i; command = e₃ i; output = e₅ i } in
    let v : eqb (number_at head 21 3) 0 ≡ true = ap (λ (l : List Field). eqb (number_of 3 l) 0) e in
    let w : leb (number_at head 1 10 + number_at head 11 10) (length t) ≡ true = le-leb (number_at head 1 10 + number_at head 11 10) (length t) (rw (e₁, e₂) (omega (arith, length-append r.command (r.output ++ z), length-append r.output z))) in
    ap one_reply (append_assoc head (r.command ++ r.output) z)
    ∙ ap (λ (x : List ℕ). one_reply (head ++ x)) (append_assoc r.command r.output z)
    ∙ ap (λ (x : Parse (List ℕ)). bind x reply_on) (head_there fs 3 t refl)
    ∙ keep_there
    (eqb (number_at head 21 3) 0 && (leb (number_at head 1 10 + number_at head 11 10) (length t) && ok_reply (reply_at head t)))
    (reply_at head t) r
    (drop (number_at head 1 10 + number_at head 11 10) t) z
    (both_and _ _ v (both_and _ _ w (ap ok_reply q ∙ o))) q e₆

-- the texts of an entry and what follows them
cut_both : (k m : ℕ) (bs : List ℕ) → k + m ≤ length bs → bs ≡ (take k bs ++ take m (drop k bs)) ++ drop (k + m) bs
cut_both k m bs h =
    let a : length (take k bs) ≡ k = length-take-le k bs (omega arith) in
    let b = length-append (take k bs) (drop k bs) in
    let c = ap length (take-append-drop k bs) in
    let d : length (take m (drop k bs)) ≡ m = length-take-le m (drop k bs) (omega arith) in
    let w : bs ≡ take k bs ++ (take m (drop k bs) ++ drop m (drop k bs)) = sym (take-append-drop k bs) ∙ ap (λ (x : List ℕ). take k bs ++ x) (sym (take-append-drop m (drop k bs))) in
    let x : drop (k + m) bs ≡ drop m (drop k bs) =
    ap (drop (k + m)) w ∙ ap₂ (λ (i j : ℕ). drop (i + j) (take k bs ++ (take m (drop k bs) ++ drop m (drop k bs)))) (sym a) (sym d) ∙ drop_both (take k bs) (take m (drop k bs)) (drop m (drop k bs))
    in
    w ∙ sym (append_assoc (take k bs) (take m (drop k bs)) (drop m (drop k bs))) ∙ ap (λ (y : List ℕ). (take k bs ++ take m (drop k bs)) ++ y) (sym x)

reply_took : (head bs : List ℕ) → Bytes head → length head ≡ 3 → number_at head 21 3 ≡ 0 → number_at head 1 10 + number_at head 11 10 ≤ length bs
    → head ++ bs ≡ enc_reply (reply_at head bs) ++ drop (number_at head 1 10 + number_at head 11 10) bs
reply_took head bs b l u h =
    let k = number_at head 1 10 in
    let m = number_at head 11 10 in
    let n : length (take k bs) ≡ k = length-take-le k bs (omega arith) in
    let p = length-append (take k bs) (drop k bs) in
    let c = ap length (take-append-drop k bs) in
    let o : length (take m (drop k bs)) ≡ m = length-take-le m (drop k bs) (omega arith) in
    let e : reply_fields (reply_at head bs) ≡ fields_at head 0 (1 ∷ 10 ∷ 10 ∷ 3 ∷ []) = λ i. (1, bit-flag head 0 i) ∷ (10, n i) ∷ (10, o i) ∷ (3, sym u i) ∷ [] in
    let f : packed (reply_fields (reply_at head bs)) ≡ head = ap packed e ∙ head_back head (1 ∷ 10 ∷ 10 ∷ 3 ∷ []) 3 refl l b in
    ap₂ (λ (x y : List ℕ). x ++ y) (sym f) (cut_both k m bs h)
    ∙ sym (append_assoc (packed (reply_fields (reply_at head bs))) (take k bs ++ take m (drop k bs)) (drop (k + m) bs))

reply_back : (bs : List ℕ) (r : Reply) (z : List ℕ) → Bytes bs → one_reply bs ≡ got r z → (bs ≡ enc_reply r ++ z) × (ok_reply r ≡ true)
reply_back bs r z g e =
    through (exactly 3 bs) _ r z e λ head q p₁ e₁.
    let (w, l) = exactly-back 3 bs head q p₁ in
    let k = number_at head 1 10 + number_at head 11 10 in
    let (t, x, y) = kept (eqb (number_at head 21 3) 0 && (leb k (length q) && ok_reply (reply_at head q))) (reply_at head q) r (drop k q) z e₁ in
    let (t₁, t₂) = and_both (eqb (number_at head 21 3) 0) _ t in
    let (t₃, t₄) = and_both (leb k (length q)) (ok_reply (reply_at head q)) t₂ in (
      w
          ∙ reply_took head q (bytes-first head q (subst Bytes w g)) l (eqb-true (number_at head 21 3) 0 t₁) (leb-true k (length q) t₃)
          ∙ ap₂ (λ (u : Reply) (v : List ℕ). enc_reply u ++ v) x y,
      ap ok_reply (sym x) ∙ t₄,
    )

pub reply_laws : Laws Reply enc_reply ok_reply one_reply
reply_laws = record { there = reply_there; back = reply_back }

-- ---- the sheet

pub there : (rs : Sheet) → Good rs → length (encode rs) ≤ most_sheet → decode (encode rs) ≡ Some rs
unfolding decode encode
there rs g h =
    let m : many one_reply (length rs) (cat enc_reply rs) ≡ got rs [] =
    ap (many one_reply (length rs)) (sym (append-nil (cat enc_reply rs))) ∙ many_there reply_laws rs [] g.each
    in
    rw (le-leb (length (length rs ∷ cat enc_reply rs)) most_sheet h, m, le-leb (length rs) most_replies g.few, g.apart, decode, ended)

ended-back : (p : Parse Sheet) (rs : Sheet) → ended p ≡ Some rs → (p ≡ got rs []) × (whole rs ≡ true)
ended-back bad rs e = let z : ◌≡◌ {A = ℕ} 0 1 = cc in absurd (omega arith)
ended-back (got v (b ∷ bs)) rs e = let z : ◌≡◌ {A = ℕ} 0 1 = cc in absurd (omega arith)
ended-back (got v []) rs e = at (whole v) refl e
  where
    at : (t : Bool) → whole v ≡ t → ended (got v []) ≡ Some rs → (got v [] ≡ got rs []) × (whole rs ≡ true)
    at true h e = let q : Some v ≡ Some rs = rw (h, ended) at e in let w : v ≡ rs = cc in (ap (λ (x : Sheet). got x []) w, ap whole (sym w) ∙ h)
    at false h e = let q : None ≡ Some rs = rw (h, ended) at e in let z : ◌≡◌ {A = ℕ} 0 1 = cc in absurd (omega arith)

pub back : (bs : List ℕ) (rs : Sheet) → Bytes bs → decode bs ≡ Some rs → Packing bs rs
unfolding decode encode
back [] rs by e = let z : ◌≡◌ {A = ℕ} 0 1 = cc in absurd (omega arith)
back (k ∷ bs) rs by e = at (leb (length (k ∷ bs)) most_sheet) refl
  where
    at : (t : Bool) → leb (length (k ∷ bs)) most_sheet ≡ t → Packing (k ∷ bs) rs
    at false h = let q : None ≡ Some rs = rw (h, decode) at e in let z : ◌≡◌ {A = ℕ} 0 1 = cc in absurd (omega arith)
    at true h =
        let q : ended (many one_reply k bs) ≡ Some rs = rw (h, decode) at e in
        let (p, w) = ended-back (many one_reply k bs) rs q in
        let (x, y, n) = many-back reply_laws k bs rs [] (λ i. by (suc i)) p in
        let (few, apart) = and_both (leb (length rs) most_replies) (distinct (commands_of rs)) w in
        record {
          good = record { few = leb-true (length rs) most_replies few; each = y; apart = apart };
          packs = ap₂ (λ (i : ℕ) (l : List ℕ). i ∷ l) n (sym (x ∙ append-nil (cat enc_reply rs)));
          short = leb-true (length (k ∷ bs)) most_sheet h;
        }

pub refused_exactly : (bs : List ℕ) → Bytes bs → (decode bs ≡ None) ↔ ((rs : Sheet) → Packing bs rs → ⊥)
refused_exactly bs by = (never, at (decode bs) refl)
  where
    never : decode bs ≡ None → (rs : Sheet) → Packing bs rs → ⊥
    never e rs p =
        let q : decode bs ≡ Some rs = subst (λ (x : List ℕ). decode x ≡ Some rs) p.packs (there rs p.good (subst (λ (x : List ℕ). length x ≤ most_sheet) (sym p.packs) p.short)) in
        let f : None ≡ Some rs = sym e ∙ q in
        let z : ◌≡◌ {A = ℕ} 0 1 = cc in
        omega arith

    at : (o : Option Sheet) → decode bs ≡ o → ((rs : Sheet) → Packing bs rs → ⊥) → decode bs ≡ None
    at None e f = e
    at (Some rs) e f = absurd (f rs (back bs rs by e))

-- ---- what the layout spends

reply_size : (r : Reply) → length (enc_reply r) ≡ 3 + (length r.command + length r.output)
reply_size r = simp (length-append, length-packed (reply_fields r) 3 refl) (omega arith)

entries_size : (rs : Sheet) → length (cat enc_reply rs) ≡ 3 * length rs + texts rs
entries_size [] = refl
entries_size (r ∷ rs) = omega (arith, length-append (enc_reply r) (cat enc_reply rs), reply_size r, entries_size rs)

pub sheet_size : (rs : Sheet) → length (encode rs) ≡ 1 + (3 * length rs + texts rs)
unfolding encode
sheet_size rs = omega (arith, entries_size rs)

pub packs_every : (rs : Sheet) → Good rs → 8 + (8 * length rs + texts rs) ≤ most_sheet → Packing (encode rs) rs
packs_every rs g h = record { good = g; packs = refl; short = omega (arith, sheet_size rs) }

pub sheet_packed : SheetPacked
sheet_packed = record { there = there; back = back; refused_exactly = refused_exactly; packs_every = packs_every }
