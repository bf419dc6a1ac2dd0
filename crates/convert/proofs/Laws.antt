-- What a conversion leaves in the target, and what the converters give back in each case.
-- Assumes nothing.
use Prim.Native.Nat.{ℕ, suc, ◌+◌, ◌-◌, ◌/◌, ◌≤◌, ◌<◌}
use mathlib.Core.Path.{◌≡◌, refl, sym, ap, ap₂, ◌∙◌, subst}
use mathlib.Core.Bool.{Bool, true, false, ◌&&◌}
use mathlib.Core.List.{List, [], ◌∷◌, ◌++◌, append_assoc}
use Rattle.std.specs.Prelude.{Option, None, Some}
use native.Mathlib.Omega.{arith}
use borrow.Author.Tests.{le-leb, lt-leb, leb-true, eq-eqb, ne_eqb, eqb-true}
use lib.Dec.{eqb, leb}
use lib.ListN.{length, get_or, set, take, drop, replicate, length-append, length-replicate, take-append-drop}
use lib.Seq.{take-append_seam, length-take-le}
use Rattle.lists.specs.Lists.{is_empty, is_some}
use Rattle.lists.specs.Bytes.{Bytes}
use Rattle.lists.specs.Checked.{Checked, ◌>>=◌, refused, ok, found, Placed, line}
use Rattle.lists.specs.Refusal.{Refusal, target_short, device_bad, outcome_bad, too_new}
use Rattle.lists.specs.Sizes.{fullest_outcome, fullest_old}
use Rattle.lists.proofs.Lists.{is_none, empty_list}
use Rattle.lists.proofs.Moves.{ap_at}
use Rattle.lists.proofs.Records.{bytes-first}
use Rattle.lists.proofs.Tests.{and_both, both_and}
use Rattle.bits.specs.Bits.{number_at}
use Rattle.splice.specs.Moves.{stored, padded}
use Rattle.splice.proofs.Laws.{set-stored, clear_padded, append-padded}
use Rattle.text.specs.Run.{refusal, acceptance}
use Rattle.device.specs.Device as D
use Rattle.device.specs.Device.{Device, chain}
use Rattle.device_lookup.specs.Lookup.{Chained}
use Rattle.device_lookup.specs.declared.Chain.{Chain}
use Rattle.outcome.specs.State.{State, encode, decode}
use Rattle.outcome.specs.Old.{renewed, aged, plain, encode_old, decode_old}
use Rattle.outcome.proofs.RoundTrip.{back}
use Rattle.outcome.proofs.Old.{output_is, watch_is, long, ages, old_size, old_lengths}
use Rattle.outcome_target.specs.declared.Layout.{Layout}
use Rattle.outcome_check.specs.Check.{checked_of}
use Rattle.outcome_check.proofs.Answers.{sound-state, faulty-state}
use Rattle.engine.specs.Operations.{given, decode_for}
use Rattle.engine.specs.Convert.{decode_old_for, newer_checked, newer, older_checked, older}
use Rattle.convert.specs.Records.{old_like, new_record, old_record}

-- ---- moves in a target of zeros

-- a byte, and ten behind it
eleven : (m b : ℕ) (x t₀ t₁ t₂ : List ℕ) → 0 < m → t₀ ≡ replicate m 0 → t₁ ≡ set t₀ 0 b → t₂ ≡ stored t₁ 1 x → t₂ ≡ padded m (b ∷ x)
eleven m b x t₀ t₁ t₂ h e₀ e₁ e₂ =
    let z : List ℕ = replicate m 0 in
    let u : t₁ ≡ padded m (b ∷ []) = e₁ ∙ ap (λ (t : List ℕ). set t 0 b) e₀ ∙ set-stored z 0 b (omega (arith, zeros_length)) ∙ append-padded [] (b ∷ []) m 0 z (clear_padded m) refl in
    e₂ ∙ append-padded (b ∷ []) x m 1 t₁ u refl
  where
    zeros_length : length {A = ℕ} (replicate m 0) ≡ m
    zeros_length = length-replicate {A = ℕ} m 0

-- zeros that stand there already
two_zeros : (m : ℕ) (y : List ℕ) → length y + 2 ≤ m → padded m y ≡ padded m (y ++ (0 ∷ 0 ∷ []))
two_zeros m y h =
    let k = m - (length y + 2) in
    ap_at (λ i. y ++ replicate i 0) (m - length y) (suc (suc k)) (omega arith)
    ∙ sym (append_assoc y (0 ∷ 0 ∷ []) (replicate k 0))
    ∙ ap_at (λ i. (y ++ (0 ∷ 0 ∷ [])) ++ replicate i 0) k (m - length (y ++ (0 ∷ 0 ∷ []))) (omega (arith, length-append y (0 ∷ 0 ∷ [])))

-- ---- to edition 2

pub no_record : (room : ℕ) (o : Option State) → o ≡ None → refusal room (line 0 outcome_bad) ≡ given room (new_record o)
no_record room o e = rw e

not_read : (o : Option State) → ((s : State) → o ≡ Some s → ⊥) → o ≡ None
not_read None h = refl
not_read (Some s) h = absurd (h s refl)

-- edition 1 in the first byte
edition_one : (n : ℕ) (old : List ℕ) (s : State) → decode_old n old ≡ Some s → eqb (get_or old 0 0 / 16) 1 ≡ true
unfolding decode_old
edition_one n [] s e = let z : ◌≡◌ {A = ℕ} 0 1 = cc in absurd (omega arith)
edition_one n (b ∷ bs) s e = at (eqb (b / 16) 1) refl
  where
    at : (t : Bool) → eqb (b / 16) 1 ≡ t → eqb (b / 16) 1 ≡ true
    at true h = h
    at false h = let q : None ≡ Some s = rw (h, decode_old) at e in let z : ◌≡◌ {A = ℕ} 0 1 = cc in absurd (omega arith)

pub not_old : (n : ℕ) (old : List ℕ) → Bytes old → old_like old ≡ false → decode_old n old ≡ None
not_old n old by h = not_read (decode_old n old) (λ s e. differ (like s e))
  where
    like : (s : State) → decode_old n old ≡ Some s → old_like old ≡ true
    like s e =
        let k = old_lengths n old s by e in
        both_and (leb 11 (length old)) (leb (length old) fullest_old && eqb (get_or old 0 0 / 16) 1) (le-leb 11 (length old) k.0)
        (both_and (leb (length old) fullest_old) (eqb (get_or old 0 0 / 16) 1) (le-leb (length old) fullest_old k.1) (edition_one n old s e))

    differ : old_like old ≡ true → ⊥
    differ e = let q : true ≡ false = sym e ∙ h in let z : ◌≡◌ {A = ℕ} 0 1 = cc in omega arith

-- what the test says
pub record OldLike (old : List ℕ) : Type 0 where
  pub header : 11 ≤ length old
  pub short : length old ≤ fullest_old
  pub edition : get_or old 0 0 / 16 ≡ 1

pub old_like_lem : (old : List ℕ) → old_like old ≡ true → OldLike old
old_like_lem old h =
    let (a, r) = and_both (leb 11 (length old)) (leb (length old) fullest_old && eqb (get_or old 0 0 / 16) 1) h in
    let (b, c) = and_both (leb (length old) fullest_old) (eqb (get_or old 0 0 / 16) 1) r in
    record { header = leb-true 11 (length old) a; short = leb-true (length old) fullest_old b; edition = eqb-true (get_or old 0 0 / 16) 1 c }

-- the bytes as they are moved
pub renewed_in : (old : List ℕ) (m : ℕ) (t₀ t₁ t₂ t₃ : List ℕ) → 11 ≤ length old → length old + 2 ≤ m
    → t₀ ≡ replicate m 0 → t₁ ≡ set t₀ 0 (get_or old 0 0 + 16) → t₂ ≡ stored t₁ 1 (take 10 (drop 1 old)) → t₃ ≡ stored t₂ 13 (drop 11 old) → t₃ ≡ padded m (renewed old)
unfolding renewed
renewed_in [] m t₀ t₁ t₂ t₃ h r e₀ e₁ e₂ e₃ = absurd (omega arith)
renewed_in (b ∷ bs) m t₀ t₁ t₂ t₃ h r e₀ e₁ e₂ e₃ =
    let x : List ℕ = take 10 bs in
    let l : length x ≡ 10 = length-take-le 10 bs (omega arith) in
    let y : List ℕ = (b + 16) ∷ x in
    let z : List ℕ = 0 ∷ 0 ∷ [] in
    let w : List ℕ = drop 10 bs in
    let u : t₂ ≡ padded m (y ++ z) = eleven m (b + 16) x t₀ t₁ t₂ (omega arith) e₀ e₁ e₂ ∙ two_zeros m y (omega arith) in
    e₃
    ∙ append-padded (y ++ z) w m 13 t₂ u (omega (arith, length-append y z))
    ∙ ap (λ (q : List ℕ). padded m ((b + 16) ∷ q)) (append_assoc x z w)

-- what the target holds then
pub record Renewed (n : ℕ) (old : List ℕ) (m : ℕ) (t : List ℕ) : Type 0 where
  pub bytes : t ≡ padded m (renewed old)
  pub size : length old + 2 ≡ length (renewed old)
  pub read : decode_old n old ≡ decode n (renewed old)

pub renewed-held : (n : ℕ) (old : List ℕ) (m : ℕ) (t : List ℕ) → OldLike old → t ≡ padded m (renewed old) → Renewed n old m t
unfolding renewed decode_old
renewed-held n old m t k e = record { bytes = e; size = sized old k.header; read = reads old k.header k.edition }
  where
    sized : (l : List ℕ) → 11 ≤ length l → length l + 2 ≡ length (renewed l)
    sized [] h = absurd (omega arith)
    sized (b ∷ bs) h =
        let x : List ℕ = take 10 bs in
        let w : List ℕ = drop 10 bs in
        let whole : length x + length w ≡ length bs = sym (length-append x w) ∙ ap length (take-append-drop 10 bs) in
        omega (arith, length-append x (0 ∷ 0 ∷ w))

    reads : (l : List ℕ) → 11 ≤ length l → get_or l 0 0 / 16 ≡ 1 → decode_old n l ≡ decode n (renewed l)
    reads [] h q = absurd (omega arith)
    reads (b ∷ bs) h q = rw (eq-eqb (b / 16) 1 q, decode_old)

module _ (n : ℕ) (old : List ℕ) (m : ℕ) (t : List ℕ) (r : Renewed n old m t) where
  -- the record, as the check is lent it
  pub front-is : take (length old + 2) t ≡ renewed old
  front-is = ap₂ (λ (i : ℕ) (x : List ℕ). take i x) r.size r.bytes ∙ take-append_seam (renewed old) (replicate (m - length (renewed old)) 0)

  read_front : decode_old n old ≡ decode n (take (length old + 2) t)
  read_front = r.read ∙ ap (decode n) (sym front-is)

  pub faulty_new : None ≡ checked_of (decode n (take (length old + 2) t)) → decode_old n old ≡ None
  faulty_new e = read_front ∙ faulty-state (decode n (take (length old + 2) t)) e

  pub sound_new : Bytes t → (lay : Layout) → Some lay ≡ checked_of (decode n (take (length old + 2) t)) → acceptance m 0 0 (renewed old) ≡ given m (new_record (decode_old n old))
  sound_new by lay e =
      let (s, f, _) = sound-state (decode n (take (length old + 2) t)) lay e in
      let d : decode_old n old ≡ Some s = read_front ∙ f in
      let b : Bytes (renewed old) = bytes-first (renewed old) (replicate (m - length (renewed old)) 0) (subst Bytes r.bytes by) in
      let p : encode s ≡ renewed old = (back n (renewed old) s b (sym r.read ∙ d)).0 in
      ap (acceptance m 0 0) (sym p) ∙ sym (ap (λ (o : Option State). given m (new_record o)) d)

-- ---- to edition 1

module _ (n : ℕ) (rec : List ℕ) (s : State) (by : Bytes rec) (is : decode n rec ≡ Some s) where
  packs : encode s ≡ rec
  packs = (back n rec s by is).0

  pub header_in : 13 ≤ length rec
  header_in = subst (λ (x : List ℕ). 13 ≤ length x) packs (long n s (back n rec s by is).1)

  output_length : number_at rec 88 10 ≡ length s.output
  output_length = ap (λ (x : List ℕ). number_at x 88 10) (sym packs) ∙ output_is n s (back n rec s by is).1

  watch_number : number_at rec 98 2 ≡ s.watch
  watch_number = ap (λ (x : List ℕ). number_at x 98 2) (sym packs) ∙ watch_is n s (back n rec s by is).1

  pub output_set : (room : ℕ) → (number_at rec 88 10 ≡ 0 → ⊥) → refusal room (line 0 too_new) ≡ given room (old_record s)
  output_set room h = rw (not-empty s.output (λ e. h (output_length ∙ e)))
    where
      not-empty : (x : List ℕ) → (length x ≡ 0 → ⊥) → is_empty x ≡ false
      not-empty [] k = absurd (k refl)
      not-empty (b ∷ x) k = refl

  pub watch_set : (room : ℕ) → number_at rec 88 10 ≡ 0 → (number_at rec 98 2 ≡ 0 → ⊥) → refusal room (line 0 too_new) ≡ given room (old_record s)
  watch_set room o h = rw (empty_list s.output (sym output_length ∙ o), ne_eqb s.watch 0 (λ e. h (watch_number ∙ e)))

  module _ (o : number_at rec 88 10 ≡ 0) (w : number_at rec 98 2 ≡ 0) where
    is-plain : plain s ≡ true
    is-plain = both_and (is_empty s.output) (eqb s.watch 0) (empty_list s.output (sym output_length ∙ o)) (eq-eqb s.watch 0 (sym watch_number ∙ w))

    pub aged-given : (room : ℕ) → acceptance room 0 0 (aged rec) ≡ given room (old_record s)
    unfolding encode_old
    aged-given room = rw (is-plain) (ap (λ (x : List ℕ). acceptance room 0 0 (aged x)) (sym packs))

    aged-fits : length (aged rec) ≤ fullest_old
    unfolding encode_old
    aged-fits = subst (λ (x : List ℕ). length (aged x) ≤ fullest_old) packs (old_size n rec s by is is-plain)

    -- the first byte, less the edition
    pub first_byte : 16 ≤ get_or rec 0 0
    first_byte = at rec by is header_in
      where
        at : (l : List ℕ) → Bytes l → decode n l ≡ Some s → 13 ≤ length l → 16 ≤ get_or l 0 0
        at [] b e h = absurd (omega arith)
        at (x ∷ xs) b e h = let k = eqb-true ((x - 16) / 16) 1 (ages n x xs s b e is-plain).edition in omega arith

    pub aged-size : (length rec - 2 ≡ length (aged rec)) × (length rec - 2 ≤ fullest_old)
    unfolding aged
    aged-size = let k = sized rec header_in in (k, omega (arith, aged-fits, k))
      where
        sized : (l : List ℕ) → 13 ≤ length l → length l - 2 ≡ length (aged l)
        sized [] h = absurd (omega arith)
        sized (x ∷ xs) h =
            let a = length-append (take 10 xs) (drop 12 xs) in
            let b : length (take 10 xs) ≡ 10 = length-take-le 10 xs (omega arith) in
            let c : length (take 12 xs) ≡ 12 = length-take-le 12 xs (omega arith) in
            let d = length-append (take 12 xs) (drop 12 xs) in
            let e = ap length (take-append-drop 12 xs) in
            omega arith

pub aged_in : (rec : List ℕ) (m : ℕ) (t₀ t₁ t₂ t₃ : List ℕ) → 13 ≤ length rec → 0 < m → t₀ ≡ replicate m 0
    → t₁ ≡ set t₀ 0 (get_or rec 0 0 - 16) → t₂ ≡ stored t₁ 1 (take 10 (drop 1 rec)) → t₃ ≡ stored t₂ 11 (drop 13 rec) → t₃ ≡ padded m (aged rec)
unfolding aged
aged_in [] m t₀ t₁ t₂ t₃ h k e₀ e₁ e₂ e₃ = absurd (omega arith)
aged_in (b ∷ bs) m t₀ t₁ t₂ t₃ h k e₀ e₁ e₂ e₃ =
    let x : List ℕ = take 10 bs in
    let l : length x ≡ 10 = length-take-le 10 bs (omega arith) in
    e₃ ∙ append-padded ((b - 16) ∷ x) (drop 12 bs) m 11 t₂ (eleven m (b - 16) x t₀ t₁ t₂ k e₀ e₁ e₂) (omega arith)

-- ---- what is given back

found_new : (o : Option State) → (found o (line 0 outcome_bad) >>= (λ (s : State). ok (encode s))) ≡ new_record o
found_new None = refl
found_new (Some s) = refl

module _ (dev out : List ℕ) (room : ℕ) where
  pub newer_short : room < fullest_outcome → newer dev out room ≡ refusal room (line 0 target_short)
  unfolding newer newer_checked
  newer_short h = rw (lt-leb fullest_outcome room h)

  pub newer_device : fullest_outcome ≤ room → is_some (D.decode dev) ≡ false → newer dev out room ≡ refusal room (line 0 device_bad)
  unfolding newer newer_checked
  newer_device h k = rw (le-leb fullest_outcome room h, is_none (D.decode dev) k)

  pub newer-made : fullest_outcome ≤ room → (d : Device) → D.decode dev ≡ Some d → (r : Chain) → Chained d r → newer dev out room ≡ given room (new_record (decode_old r.len out))
  unfolding newer newer_checked decode_old_for
  newer-made h d e r c =
      rw (le-leb fullest_outcome room h, e)
      (ap (given room) (found_new (decode_old (length (chain d)) out) ∙ ap (λ (n : ℕ). new_record (decode_old n out)) (sym c.len)))

  pub older_short : room < fullest_old → older dev out room ≡ refusal room (line 0 target_short)
  unfolding older older_checked
  older_short h = rw (lt-leb fullest_old room h)

  pub older_device : fullest_old ≤ room → is_some (D.decode dev) ≡ false → older dev out room ≡ refusal room (line 0 device_bad)
  unfolding older older_checked
  older_device h k = rw (le-leb fullest_old room h, is_none (D.decode dev) k)

  module _ (h : fullest_old ≤ room) (d : Device) (e : D.decode dev ≡ Some d) (r : Chain) (c : Chained d r) where
    pub older_outcome : None ≡ checked_of (decode r.len out) → older dev out room ≡ refusal room (line 0 outcome_bad)
    unfolding older older_checked decode_for
    older_outcome k =
        let f : decode (length (chain d)) out ≡ None = ap (λ (n : ℕ). decode n out) (sym c.len) ∙ faulty-state (decode r.len out) k in
        rw (le-leb fullest_old room h, e, f)

    pub older-made : (s : State) → decode r.len out ≡ Some s → older dev out room ≡ given room (old_record s)
    unfolding older older_checked decode_for
    older-made s k =
        let f : decode (length (chain d)) out ≡ Some s = ap (λ (n : ℕ). decode n out) (sym c.len) ∙ k in
        rw (le-leb fullest_old room h, e, f)
