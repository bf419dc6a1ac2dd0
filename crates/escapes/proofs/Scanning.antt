-- A value read byte by byte and put into an array: what holds at each place, and one law for each way on.
-- Assumes nothing.
use Prim.Native.Nat.{ℕ, ◌+◌, ◌-◌, ◌≤◌, ◌<◌}
use mathlib.Core.Path.{◌≡◌, refl, sym, ap, ◌∙◌}
use mathlib.Core.List.{List, [], ◌∷◌, ◌++◌, append_assoc, append-nil}
use Rattle.std.specs.Prelude.{Option, None, Some}
use native.Mathlib.Numerals.{add-one}
use native.Mathlib.Omega.{arith}
use borrow.Author.Tests.{eq-eqb, ne_eqb}
use lib.ListN.{length, get_or, take, drop, length-append, drop_of_length-le}
use lib.Seq.{drop-drop, take-suc-set}
use Rattle.lists.specs.Runs.{Part}
use Rattle.lists.proofs.Rest.{rest_at}
use Rattle.lists.proofs.Moves.{ap_at}
use Rattle.lists.specs.Bytes.{part}
use Rattle.rules.specs.Coded.{coded_byte, put, coded}
use Rattle.rules.proofs.Coded.{coded-close, coded_at, coded-bad}
use Rattle.escapes.specs.declared.Taken.{Taken}
use Rattle.escapes.specs.Values.{decoded, Written, PutAt}
use Rattle.escapes.specs.Answers.{taken_by}
use Rattle.escapes.proofs.Values.{decoded-is, written_is}

-- a value whose first bytes are known
abbrev after : List ℕ → Option (Part (List ℕ)) → Option (Part (List ℕ))
after vs None = None
after vs (Some p) = Some (record { value = vs ++ p.value; rest = p.rest })

after_none : (o : Option (Part (List ℕ))) → after [] o ≡ o
after_none None = refl
after_none (Some p) = refl

after-put : (vs : List ℕ) (b : ℕ) (o : Option (Part (List ℕ))) → after vs (put b o) ≡ after (vs ++ (b ∷ [])) o
after-put vs b None = refl
after-put vs b (Some p) = ap (λ (v : List ℕ). Some (record { value = v; rest = p.rest })) (sym (append_assoc vs (b ∷ []) p.value))

-- what is taken at a place, and where it goes on
taken_at : (s : List ℕ) (i : ℕ) (t : Taken) → i < length s → (get_or s i 0 ≡ 34 → ⊥) → taken_by (Some t) ≡ coded_byte (get_or s i 0) (drop (i + 1) s)
    → coded 0 (drop i s) ≡ put t.byte (coded 0 (drop (i + (1 + t.more)) s))
taken_at s i t h m e =
    let c = coded_at (get_or s i 0) (drop (i + 1) s) (record { value = t.byte; more = t.more }) (ne_eqb (get_or s i 0) 34 m) (sym e) in
    ap (coded 0) (rest_at s i h) ∙ c
    ∙ ap (λ (l : List ℕ). put t.byte (coded 0 l)) (drop-drop t.more (i + 1) s ∙ ap_at (λ k. drop k s) (i + 1 + t.more) (i + (1 + t.more)) (omega arith))

-- a value that starts at a place is not closed before i, and n of its bytes are passed and put
pub record Scans (s : List ℕ) (start : ℕ) (out₀ out : List ℕ) (i n : ℕ) : Type 0 where
  pub from : start ≤ i
  pub counted : n ≤ i
  pub values : List ℕ
  pub size : n ≡ length values
  pub whole : coded 0 (drop start s) ≡ after values (coded 0 (drop i s))
  pub kept : length out ≡ length out₀
  pub put : n ≤ length out₀ → take n out ≡ values

module _ (s : List ℕ) (start : ℕ) (out₀ : List ℕ) where
  pub scan_begins : Scans s start out₀ out₀ start 0
  scan_begins = record {
    from = omega arith;
    counted = omega arith;
    values = [];
    size = refl;
    whole = sym (after_none (coded 0 (drop start s)));
    kept = refl;
    put = λ h. refl;
  }

  module _ (out : List ℕ) (i n : ℕ) (c : Scans s start out₀ out i n) where
    pub scan_closed : i < length s → get_or s i 0 ≡ 34 → Written s start i × (n ≡ length (decoded (part s start i))) × (n ≤ length out₀ → take n out ≡ decoded (part s start i))
    scan_closed h m =
        let x : coded 0 (drop start s) ≡ Some (record { value = c.values ++ []; rest = drop (i + 1) s }) =
        c.whole ∙ ap (after c.values) (ap (coded 0) (rest_at s i h) ∙ coded-close (get_or s i 0) (drop (i + 1) s) (eq-eqb (get_or s i 0) 34 m)) in
        let v = decoded-is s start i (c.values ++ []) x c.from h ∙ append-nil c.values in
        (written_is s start i (c.values ++ []) x c.from h, c.size ∙ sym (ap length v), λ r. c.put r ∙ sym v)

    pub scan_out : length s ≤ i → coded 0 (drop start s) ≡ None
    unfolding coded
    scan_out h = c.whole ∙ rw (drop_of_length-le s h)

    module _ (h : i < length s) (m : get_or s i 0 ≡ 34 → ⊥) where
      pub scan_bad : None ≡ coded_byte (get_or s i 0) (drop (i + 1) s) → coded 0 (drop start s) ≡ None
      scan_bad e =
          c.whole ∙ ap (after c.values) (ap (coded 0) (rest_at s i h) ∙ coded-bad (get_or s i 0) (drop (i + 1) s) (ne_eqb (get_or s i 0) 34 m) (sym e))

      pub scan_next : (t : Taken) → taken_by (Some t) ≡ coded_byte (get_or s i 0) (drop (i + 1) s) → (out' : List ℕ) → PutAt n t.byte out out' → Scans s start out₀ out' (i + (1 + t.more)) (n + 1)
      scan_next t e out' p = record {
        from = omega (arith, c.from);
        counted = omega (arith, c.counted);
        values = c.values ++ (t.byte ∷ []);
        size = omega (arith, c.size, length-append c.values (t.byte ∷ []));
        whole = c.whole ∙ ap (after c.values) (taken_at s i t h m e) ∙ after-put c.values t.byte (coded 0 (drop (i + (1 + t.more)) s));
        kept = p.size ∙ c.kept;
        put = λ r.
            let k : n < length out = omega (arith, c.kept) in
            ap (take (n + 1)) (p.is k) ∙ rw (add-one n, take-suc-set out n t.byte k) (ap (λ (l : List ℕ). l ++ (t.byte ∷ [])) (c.put (omega arith)));
      }
