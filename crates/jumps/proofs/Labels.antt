-- Laws of the lists of labels: none, one more or one less in front, and a search by the last byte of a hash.
-- Assumes nothing.
use Prim.Native.Nat.{ℕ, ◌+◌, ◌-◌, ◌*◌, ◌%◌, ◌≤◌, ◌<◌}
use mathlib.Core.Path.{◌≡◌, refl, sym, ap, ◌∙◌}
use mathlib.Core.Bool.{Bool, true, false}
use mathlib.Core.List.{List}
use Rattle.std.specs.Prelude.{Some}
use native.Mathlib.Omega.{arith}
use borrow.Author.Tests.{eqb-true, eqb-false, ne_eqb, ltb-true, ltb-false}
use lib.Dec.{eqb, ltb}
use lib.ListN.{length, get_or, set, drop, length-set, drop_of_length-le, replicate, length-replicate, get_or-replicate}
use lib.Seq.{get_or-set_same, get_or-set_other}
use Rattle.lists.specs.Lists.{pick}
use Rattle.lists.specs.Bytes.{same_bytes}
use Rattle.lists.specs.Sizes.{most_rules}
use Rattle.lists.proofs.Bytes.{same-eq}
use Rattle.lists.proofs.Rest.{rest_at}
use Rattle.rules.specs.Pair.{label_of}
use Rattle.table.specs.Table.{pair_at}
use Rattle.table.specs.Rules.{value_in, pairs_of, Rules}
use Rattle.table.proofs.Rules.{row-places}
use Rattle.jumps.specs.Jumps.{labelled, NoneTo, Goes}
use Rattle.jumps.specs.Labels.{mixed, hash_from, hash_of, name_at, InList, NoneIn, First, NextIs, Labels}
use Rattle.jumps.proofs.Goes.{label-none, none_more}

-- ---- the hash

pub hash_step : (name : List ℕ) (i h : ℕ) → i < length name → hash_from h (drop i name) ≡ hash_from (mixed h (get_or name i 0)) (drop (i + 1) name)
unfolding hash_from
hash_step name i h l = rw (rest_at name i l)

pub hash_end : (name : List ℕ) (i h : ℕ) → length name ≤ i → hash_from h (drop i name) ≡ h
unfolding hash_from
hash_end name i h l = rw (drop_of_length-le name l)

-- ---- the label of a rule

module _ (v r t l : List ℕ) (m used n i : ℕ) (w : Rules v r t l m used n) (h : i < n) (g : List ℕ) where
  pub label_same : 0 < get_or l i 0 → same_bytes g (name_at v r l i) ≡ labelled v r t g i
  label_same z =
      let q : value_in v r (get_or l i 0) ≡ Some (name_at v r l i) = rw (ne_eqb (get_or l i 0) 0 (λ e. absurd (omega arith))) in
      let o : label_of (pairs_of v r t i) ≡ Some (name_at v r l i) = sym (w.rules i h).label ∙ q in
      rw o

  pub label-apart : 0 < get_or l i 0 → (hash_of (name_at v r l i) ≡ hash_of g → ⊥) → false ≡ labelled v r t g i
  label-apart z d = go (same_bytes g (name_at v r l i)) refl ∙ label_same z
    where
      go : (c : Bool) → same_bytes g (name_at v r l i) ≡ c → false ≡ c
      go false e = refl
      go true e = absurd (d (ap hash_of (sym (same-eq g (name_at v r l i) e))))

  -- of another list it is another name
  pub label_other : (InList v r l (hash_of g % 256) i → ⊥) → labelled v r t g i ≡ false
  label_other d = go (eqb (get_or l i 0) 0) refl
    where
      go : (c : Bool) → eqb (get_or l i 0) 0 ≡ c → labelled v r t g i ≡ false
      go true e = sym (label-none v r t l m used n i w h g (eqb-true (get_or l i 0) 0 e))
      go false e =
          let z = eqb-false (get_or l i 0) 0 e in
          let y : 0 < get_or l i 0 = omega arith in
          sym (label-apart y (λ q. d (record { there = y; ends = ap (λ (x : ℕ). x % 256) q })))

-- the row of a label
module _ (v r t l : List ℕ) (m used n i : ℕ) (w : Rules v r t l m used n) (h : i < n) (row : ℕ) (e : row + 1 ≡ get_or l i 0) where
  pub name-is : (pair_at v r row).value ≡ name_at v r l i
  name-is = let q : row ≡ get_or l i 0 - 1 = omega (arith, e) in ap (λ (k : ℕ). (pair_at v r k).value) q

  pub name-places : (row * 4 + 4 ≤ length r) × (get_or r (row * 4 + 2) 0 ≤ get_or r (row * 4 + 3) 0) × (get_or r (row * 4 + 3) 0 ≤ length v)
  name-places = row-places v r m used w.rows row (omega (arith, e, (w.rules i h).label_in))

-- ---- a search

-- how many rules may still be looked at
abbrev pub left_of : ℕ → ℕ
left_of next = pick (eqb next 0) 0 (most_rules + 1 - next)

-- the rules from the i-th up to a place have another label, and the next that is looked at is the first of its list from there on
pub record Walk (v r t l g : List ℕ) (i n next : ℕ) : Type 0 where
  pub place : ℕ
  pub from : i ≤ place
  pub within : place ≤ n
  pub next-is : NextIs v r l (hash_of g % 256) place n next
  pub others : NoneTo v r t g i place

module _ (v r t l g : List ℕ) (m used n : ℕ) (w : Rules v r t l m used n) where
  -- up to a rule of its list
  passed : (i k j : ℕ) → k ≤ j → j ≤ n → NoneTo v r t g i k → NoneIn v r l (hash_of g % 256) k j → NoneTo v r t g i j
  passed i k j a b before-it off q c d = go (ltb q k) refl
    where
      go : (u : Bool) → ltb q k ≡ u → labelled v r t g q ≡ false
      go true e = before-it q c (ltb-true q k e)
      go false e = label_other v r t l m used n q w (omega arith) g (off q (ltb-false q k e) d)

  module _ (hashes heads later : List ℕ) (i : ℕ) (ls : Labels v r l hashes heads later i n) where
    pub walk_start : Walk v r t l g i n (get_or heads (hash_of g % 256) 0)
    walk_start = record { place = i; from = omega arith; within = ls.within; next-is = ls.heads_are (hash_of g % 256) (omega arith); others = λ k a b. absurd (omega arith) }

    module _ (j : ℕ) (k : Walk v r t l g i n (j + 1)) where
      pub looked : First v r l (hash_of g % 256) k.place n j
      looked =
          let z : j + 1 ≡ 0 → ⊥ = λ q. omega arith in
          let e : j + 1 - 1 ≡ j = omega arith in
          rw e at (k.next-is.some z)

      before : NoneTo v r t g i j
      before = passed i k.place j looked.from (omega (arith, looked.within)) k.others looked.others

      pub walk_hash : get_or hashes j 0 ≡ hash_of (name_at v r l j)
      walk_hash = ls.hashes_are j (omega (arith, k.from, looked.from)) looked.within looked.has.there

      pub walk_here : labelled v r t g j ≡ true → Goes v r t g i n j
      walk_here e = record { from = omega (arith, k.from, looked.from); within = looked.within; has = e; others = before }

      behind : NextIs v r l (hash_of g % 256) (j + 1) n (get_or later j 0)
      behind = rw looked.has.ends at (ls.later_are j (omega (arith, k.from, looked.from)) looked.within looked.has.there)

      pub walk_on : labelled v r t g j ≡ false → Walk v r t l g i n (get_or later j 0)
      walk_on e = record {
        place = j + 1;
        from = omega (arith, k.from, looked.from);
        within = omega (arith, looked.within);
        next-is = behind;
        others = none_more v r t g i j before e;
      }

      -- the rules that are looked at come one behind the other
      pub walk_less : left_of (get_or later j 0) < left_of (j + 1)
      walk_less =
          let z : j + 1 ≡ 0 → ⊥ = λ q. omega arith in
          let y : left_of (j + 1) ≡ most_rules + 1 - (j + 1) = rw (ne_eqb (j + 1) 0 z) in
          go (eqb (get_or later j 0) 0) refl y
        where
          go : (c : Bool) → eqb (get_or later j 0) 0 ≡ c → left_of (j + 1) ≡ most_rules + 1 - (j + 1) → left_of (get_or later j 0) < left_of (j + 1)
          go true e y =
              let x : left_of (get_or later j 0) ≡ 0 = rw e in
              omega (arith, x, y, looked.within, ls.few)
          go false e y =
              let x : left_of (get_or later j 0) ≡ most_rules + 1 - get_or later j 0 = rw e in
              let f = behind.some (eqb-false (get_or later j 0) 0 e) in
              omega (arith, x, y, f.from, f.within, ls.few)

    pub walk_end : Walk v r t l g i n 0 → NoneTo v r t g i n
    walk_end k = passed i k.place n k.within (omega arith) k.others (k.next-is.none refl)

-- ---- the lists

module _ (v r l : List ℕ) where
  pub labels_start : (later : List ℕ) (n : ℕ) → n ≤ most_rules → n ≤ length later → Labels v r l (replicate most_rules 0) (replicate 256 0) later n n
  labels_start later n few room = record {
    few = few;
    within = omega arith;
    hashes_room = length-replicate {A = ℕ} most_rules 0;
    heads_room = length-replicate {A = ℕ} 256 0;
    later_room = room;
    hashes_are = λ k a b c. absurd (omega arith);
    heads_are = λ b k. record { none = λ q j c d. absurd (omega arith); some = λ q. absurd (q (get_or-replicate 256 b 0 0 k)) };
    later_are = λ k a b c. absurd (omega arith);
  }

  -- a rule in front that is not of the list
  next_out : (b i n next : ℕ) → (InList v r l b i → ⊥) → NextIs v r l b (i + 1) n next → NextIs v r l b i n next
  next_out b i n next d w = record {
    none = λ q. absent (w.none q);
    some = λ q. let f = w.some q in record { from = omega (arith, f.from); within = f.within; has = f.has; others = absent f.others };
  }
    where
      absent : {j : ℕ} → NoneIn v r l b (i + 1) j → NoneIn v r l b i j
      absent {j} u k a c x = go (eqb i k) refl
        where
          go : (t : Bool) → eqb i k ≡ t → ⊥
          go true e = let q = eqb-true i k e in d (rw q x)
          go false e = let q = eqb-false i k e in u k (omega arith) c x

  next_in : (b i n : ℕ) → i < n → InList v r l b i → NextIs v r l b i n (i + 1)
  next_in b i n h x = record {
    none = λ q. absurd (omega arith);
    some = λ q. let e : i + 1 - 1 ≡ i = omega arith in rw e (record { from = omega arith; within = h; has = x; others = λ k a c y. absurd (omega arith) });
  }

  -- a rule in front is taken that is not of the list
  next_less : (b i n next : ℕ) → (InList v r l b i → ⊥) → NextIs v r l b i n next → NextIs v r l b (i + 1) n next
  next_less b i n next d w = record {
    none = λ q k a c x. w.none q k (omega arith) c x;
    some = λ q. let f = w.some q in record { from = further f (eqb i (next - 1)) refl; within = f.within; has = f.has; others = λ k a c x. f.others k (omega arith) c x };
  }
    where
      further : First v r l b i n (next - 1) → (t : Bool) → eqb i (next - 1) ≡ t → i + 1 ≤ next - 1
      further f true e = let q = eqb-true i (next - 1) e in absurd (d (rw q f.has))
      further f false e = let q = eqb-false i (next - 1) e in omega (arith, f.from)

  module _ (hashes heads later : List ℕ) (i n : ℕ) where
    module _ (ls : Labels v r l hashes heads later (i + 1) n) where
      pub put-nothing : get_or l i 0 ≡ 0 → Labels v r l hashes heads later i n
      put-nothing z = record {
        few = ls.few;
        within = omega (arith, ls.within);
        hashes_room = ls.hashes_room;
        heads_room = ls.heads_room;
        later_room = ls.later_room;
        hashes_are = λ k a b c. ls.hashes_are k (beyond k a c) b c;
        heads_are = λ b k. next_out b i n (get_or heads b 0) (λ x. absurd (omega (arith, x.there))) (ls.heads_are b k);
        later_are = λ k a b c. ls.later_are k (beyond k a c) b c;
      }
        where
          beyond : (k : ℕ) → i ≤ k → 0 < get_or l k 0 → i + 1 ≤ k
          beyond k a c = go (eqb i k) refl
            where
              go : (t : Bool) → eqb i k ≡ t → i + 1 ≤ k
              go true e = let q : k ≡ i = sym (eqb-true i k e) in let y : get_or l k 0 ≡ 0 = rw q z in absurd (omega arith)
              go false e = let q = eqb-false i k e in omega arith

      module _ (z : 0 < get_or l i 0) (h : ℕ) (e : h ≡ hash_of (name_at v r l i)) where
        here : InList v r l (h % 256) i
        here = record { there = z; ends = ap (λ (x : ℕ). x % 256) (sym e) }

        pub put_front : Labels v r l (set hashes i h) (set heads (h % 256) (i + 1)) (set later i (get_or heads (h % 256) 0)) i n
        put_front = record {
          few = ls.few;
          within = omega (arith, ls.within);
          hashes_room = length-set hashes i h ∙ ls.hashes_room;
          heads_room = length-set heads (h % 256) (i + 1) ∙ ls.heads_room;
          later_room = let q = length-set later i (get_or heads (h % 256) 0) in omega (arith, ls.later_room);
          hashes_are = λ k a b c. hashed k a b c (eqb i k) refl;
          heads_are = λ b k. first b k (eqb (h % 256) b) refl;
          later_are = λ k a b c. next k a b c (eqb i k) refl;
        }
          where
            hashed : (k : ℕ) → i ≤ k → k < n → 0 < get_or l k 0 → (t : Bool) → eqb i k ≡ t → get_or (set hashes i h) k 0 ≡ hash_of (name_at v r l k)
            hashed k a b c true q = let y : k ≡ i = sym (eqb-true i k q) in rw y (get_or-set_same hashes i h 0 (omega (arith, ls.hashes_room, ls.few, ls.within)) ∙ e)
            hashed k a b c false q =
                let y = eqb-false i k q in
                get_or-set_other hashes i k h 0 (λ o. y (sym o)) ∙ ls.hashes_are k (omega arith) b c

            first : (b : ℕ) → b < 256 → (t : Bool) → eqb (h % 256) b ≡ t → NextIs v r l b i n (get_or (set heads (h % 256) (i + 1)) b 0)
            first b k true q =
                let y : b ≡ h % 256 = sym (eqb-true (h % 256) b q) in
                rw (y, get_or-set_same heads (h % 256) (i + 1) 0 (omega (arith, ls.heads_room))) (next_in (h % 256) i n (omega (arith, ls.within)) here)
            first b k false q =
                let y = eqb-false (h % 256) b q in
                rw (get_or-set_other heads (h % 256) b (i + 1) 0 (λ o. y (sym o))) (next_out b i n (get_or heads b 0) (λ x. y (sym here.ends ∙ x.ends)) (ls.heads_are b k))

            next : (k : ℕ) → i ≤ k → k < n → 0 < get_or l k 0 → (t : Bool) → eqb i k ≡ t
                → NextIs v r l (hash_of (name_at v r l k) % 256) (k + 1) n (get_or (set later i (get_or heads (h % 256) 0)) k 0)
            next k a b c true q =
                let y : k ≡ i = sym (eqb-true i k q) in
                rw (y, get_or-set_same later i (get_or heads (h % 256) 0) 0 (omega (arith, ls.later_room, ls.within)), ← e) (ls.heads_are (h % 256) (omega arith))
            next k a b c false q =
                let y = eqb-false i k q in
                rw (get_or-set_other later i k (get_or heads (h % 256) 0) 0 (λ o. y (sym o))) (ls.later_are k (omega arith) b c)

    -- the first label goes again
    module _ (ls : Labels v r l hashes heads later i n) (less : i < n) where
      pub take-nothing : get_or l i 0 ≡ 0 → Labels v r l hashes heads later (i + 1) n
      take-nothing z = record {
        few = ls.few;
        within = omega arith;
        hashes_room = ls.hashes_room;
        heads_room = ls.heads_room;
        later_room = ls.later_room;
        hashes_are = λ k a b c. ls.hashes_are k (omega arith) b c;
        heads_are = λ b k. next_less b i n (get_or heads b 0) (λ x. absurd (omega (arith, x.there))) (ls.heads_are b k);
        later_are = λ k a b c. ls.later_are k (omega arith) b c;
      }

      pub take-front : 0 < get_or l i 0 → Labels v r l hashes (set heads (get_or hashes i 0 % 256) (get_or later i 0)) later (i + 1) n
      take-front z = record {
        few = ls.few;
        within = omega arith;
        hashes_room = ls.hashes_room;
        heads_room = length-set heads (get_or hashes i 0 % 256) (get_or later i 0) ∙ ls.heads_room;
        later_room = ls.later_room;
        hashes_are = λ k a b c. ls.hashes_are k (omega arith) b c;
        heads_are = λ b k. first b k (eqb (get_or hashes i 0 % 256) b) refl;
        later_are = λ k a b c. ls.later_are k (omega arith) b c;
      }
        where
          hash_is : get_or hashes i 0 ≡ hash_of (name_at v r l i)
          hash_is = ls.hashes_are i (omega arith) less z

          first : (b : ℕ) → b < 256 → (t : Bool) → eqb (get_or hashes i 0 % 256) b ≡ t → NextIs v r l b (i + 1) n (get_or (set heads (get_or hashes i 0 % 256) (get_or later i 0)) b 0)
          first b k true q =
              let y : b ≡ get_or hashes i 0 % 256 = sym (eqb-true (get_or hashes i 0 % 256) b q) in
              rw (y, get_or-set_same heads (get_or hashes i 0 % 256) (get_or later i 0) 0 (omega (arith, ls.heads_room)), hash_is) (ls.later_are i (omega arith) less z)
          first b k false q =
              let y = eqb-false (get_or hashes i 0 % 256) b q in
              rw (get_or-set_other heads (get_or hashes i 0 % 256) b (get_or later i 0) 0 (λ o. y (sym o))) (next_less b i n (get_or heads b 0) (λ x. y (ap (λ (u : ℕ). u % 256) hash_is ∙ x.ends)) (ls.heads_are b k))

    -- what stands before the rules that are left may change
    pub labels_kept : (k : ℕ) → Labels v r l hashes heads later (i + 1) n → Labels v r l hashes heads (set later i k) (i + 1) n
    labels_kept k ls = record {
      few = ls.few;
      within = ls.within;
      hashes_room = ls.hashes_room;
      heads_room = ls.heads_room;
      later_room = let q = length-set later i k in omega (arith, ls.later_room);
      hashes_are = ls.hashes_are;
      heads_are = ls.heads_are;
      later_are = λ j a b c. rw (get_or-set_other later i j k 0 (λ o. omega arith)) (ls.later_are j a b c);
    }
