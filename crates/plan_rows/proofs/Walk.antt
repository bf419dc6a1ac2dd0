-- A walk over the devices of a set that is not refused.
-- Assumes nothing.
use Prim.Native.Nat.{ℕ, suc, ◌<◌}
use mathlib.Core.Path.{◌≡◌, refl, sym, ap, ap₂, ◌∙◌, subst}
use mathlib.Core.List.{List, [], ◌∷◌}
use Rattle.std.specs.Prelude.{Some}
use Rattle.std.proofs.lemmas.Option.{same_Some}
use native.Mathlib.Omega.{arith}
use lib.ListN.{length, drop}
use Rattle.entries.specs.Parse.{got}
use Rattle.device.specs.Device as D
use Rattle.set_rows.specs.Places.{bytes_in}
use Rattle.plan.specs.Plan.{Naming}
use Rattle.plan.specs.Operations.{Wish}
use Rattle.plan_rows.specs.declared.WishPlace.{WishPlace}
use Rattle.plan_rows.specs.Places.{wish_in, WishFrom, WishIs}
use Rattle.plan_rows.specs.Namings.{wish_of, Stand, Standing}

-- of n namings that stand from place p on, P holds
pub record Walking (P : List Naming → Type 0) (set : List ℕ) (p n : ℕ) : Type 0 where
  pub namings : List Naming
  pub standing : Standing set p namings
  pub counted : length namings ≡ n
  pub so_far : P namings

-- from one place on, so many stand in one way only
stand_one : (bs : List ℕ) (ns ms : List Naming) → Stand bs ns → Stand bs ms → length ns ≡ length ms → ns ≡ ms
stand_one bs [] [] v w e = refl
stand_one bs [] (m ∷ ms) v w e = absurd (omega arith)
stand_one bs (n ∷ ns) [] v w e = absurd (omega arith)
stand_one bs (n ∷ ns) (m ∷ ms) (z, f, v) (y, g, u) e =
    let same : got (wish_of n) z ≡ got (wish_of m) y = sym f.read ∙ g.read in
    let w : wish_of n ≡ wish_of m = cc in
    let a : n.bytes_lent ≡ m.bytes_lent = ap (λ (x : Wish). x.device) w in
    let b : n.link ≡ m.link = ap (λ (x : Wish). x.link) w in
    let c : z ≡ y = cc in
    let d : n.device ≡ m.device = same_Some n.device m.device (sym f.sound ∙ ap D.decode a ∙ g.sound) in
    ap₂ (λ (x : Naming) (xs : List Naming). x ∷ xs) (λ i. record { bytes_lent = a i; device = d i; link = b i })
    (stand_one z ns ms v (subst (λ (x : List ℕ). Stand x ms) (sym c) u) (omega arith))

pub standing-one : (set : List ℕ) (p : ℕ) (ns ms : List Naming) → Standing set p ns → Standing set p ms → length ns ≡ length ms → ns ≡ ms
standing-one set p ns ms v w e = stand_one (drop p set) ns ms v.stand w.stand e

-- the first of them, by the places that code has
pub record Here (set : List ℕ) (r : WishPlace) (ns : List Naming) : Type 0 where
  pub naming : Naming
  pub others : List Naming
  pub split : ns ≡ naming ∷ others
  pub device : bytes_in set r.device ≡ naming.bytes_lent
  pub link : bytes_in set r.link ≡ naming.link
  pub sound : D.decode naming.bytes_lent ≡ Some naming.device
  pub behind : Standing set r.link.end others

pub standing-from : (set : List ℕ) (p : ℕ) (ns : List Naming) → Standing set p ns → 0 < length ns → WishFrom set p
standing-from set p [] w h = absurd (omega arith)
standing-from set p (n ∷ ns) w h =
    let (z, f, _) = w.stand in
    record { within = w.within; wish = wish_of n; behind = z; read = f.read }

pub here_of : (set : List ℕ) (p : ℕ) (r : WishPlace) → WishIs set p r → (ns : List Naming) → Standing set p ns → 0 < length ns → Here set r ns
here_of set p r is [] w h = absurd (omega arith)
here_of set p r is (n ∷ ns) w h =
    let (z, f, g) = w.stand in
    let same : got (wish_of n) z ≡ got (wish_in set r) (drop r.link.end set) = sym f.read ∙ is.read in
    let a : wish_in set r ≡ wish_of n = cc in
    let b : z ≡ drop r.link.end set = cc in
    record {
      naming = n;
      others = ns;
      split = refl;
      device = ap (λ (w : Wish). w.device) a;
      link = ap (λ (w : Wish). w.link) a;
      sound = f.sound;
      behind = record { within = is.link.within; stand = subst (λ (x : List ℕ). Stand x ns) b g };
    }

module _ (P : List Naming → Type 0) (set : List ℕ) (p n : ℕ) (w : Walking P set p n) where
  pub walk_from : 0 < n → WishFrom set p
  walk_from h = standing-from set p w.namings w.standing (omega (arith, w.counted))

  pub walk_here : 0 < n → (r : WishPlace) → WishIs set p r → Here set r w.namings
  walk_here h r is = here_of set p r is w.namings w.standing (omega (arith, w.counted))

  pub walk_next : (r : WishPlace) (here : Here set r w.namings) → P here.others → (m : ℕ) → n ≡ suc m → Walking P set r.link.end m
  walk_next r here x m e = record { namings = here.others; standing = here.behind; counted = omega (arith, ap length here.split, w.counted); so_far = x }

  pub walk_last : n ≡ 0 → P []
  walk_last z = subst P (empty w.namings (w.counted ∙ z)) w.so_far
    where
      empty : (ns : List Naming) → length ns ≡ 0 → ns ≡ []
      empty [] e = refl
      empty (m ∷ ns) e = absurd (omega arith)
