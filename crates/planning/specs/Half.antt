-- After repairs 1 and 2: the records are those of the first reading, without the first if the second is a START or CLEAN, and but for the
-- low byte of the one that is first then.
use Rattle.std.specs.Prelude.{ℕ, ◌≡◌, Bool, ◌&&◌, ◌||◌, not, eqb}
use Rattle.std.proofs.Math.Path.{refl, ap}
use Rattle.std.proofs.Common.{sym, ap₂, ◌∙◌, subst, eqb-true}
use Rattle.std.proofs.Math.Bool.{true, false}
use mathlib.Core.List.{List, [], ◌∷◌}
use Rattle.spec.specs.declared.Place.{Place}
use Rattle.spec.specs.declared.Ending.{Ending}
use Rattle.spec.specs.Basics.{any, Each}
use Rattle.spec.specs.Geometry.{floor}
use Rattle.spec.specs.Bytes.{is_start, is_clean}
use Rattle.spec.specs.Record.{Entry}
use Rattle.spec.specs.Chain.{Reading}
use Rattle.spec.specs.Files.{live}
use Rattle.spec.specs.Reading.{marked, second_ok, marks_ok}
use Rattle.laws.specs.Tests.{not_true, and_left, and_right}
use Rattle.laws.specs.Settled.{second_marked}
use Rattle.planning.specs.Planned.{led_place, with_low, start_if, started, paired, first_mended, half_mended}
use Rattle.planning.specs.Leads.{StartNear}

-- ---- what is left

-- without the first
abbrev pub later : List Entry → List Entry
later [] = []
later (x ∷ es) = es

-- with the second a START or a CLEAN the first is gone
unfoldable pub behind : List Entry → List Entry
behind es = elim (second_marked es) [ true ↦ later es | false ↦ es ]

-- the place from which they are read
unfoldable pub behind_place : Place → List Entry → Place
behind_place p [] = p
behind_place p (x ∷ []) = p
behind_place p (x ∷ (y ∷ es)) = elim (marked y) [ true ↦ led_place p y.at | false ↦ p ]

-- the first of them may have got the low byte 00
abbrev pub lowered : Bool → List Entry → List Entry
lowered t [] = []
lowered t (x ∷ es) = start_if t x ∷ es

-- what is read after repairs 1 and 2, by these
pub record Half (r : Reading) : Type 0 where
  pub t : Bool
  pub entries : (half_mended r).entries ≡ lowered t (behind r.entries)
  pub place : (half_mended r).place ≡ behind_place r.place r.entries
  pub ending : (half_mended r).ending ≡ r.ending

or_on : (b : Bool) → (b || true) ≡ true
or_on true = refl
or_on false = refl

module _ (p : Place) (e : Ending) where
  -- from what repair 2 makes of X and Y
  half_by : (x y : Entry) (es : List Entry) (t m : Bool) → marked y ≡ m
      → half_mended (record { place = p; entries = x ∷ (y ∷ es); ending = e })
      ≡ record {
        place = elim m [ true ↦ led_place p y.at | false ↦ p ];
        entries = lowered t (elim m [ true ↦ y ∷ es | false ↦ x ∷ (y ∷ es) ]);
        ending = e;
      }
      → Half (record { place = p; entries = x ∷ (y ∷ es); ending = e })
  unfolding behind behind_place
  half_by x y es t m k h =
      record {
        t = t;
        entries =
            ap (λ (s : Reading). s.entries) h ∙ ap (λ (b : Bool). lowered t (elim b [ true ↦ y ∷ es | false ↦ x ∷ (y ∷ es) ])) (sym k);
        place = ap (λ (s : Reading). s.place) h ∙ ap (λ (b : Bool). elim b [ true ↦ led_place p y.at | false ↦ p ]) (sym k);
        ending = ap (λ (s : Reading). s.ending) h;
      }

  half_pair : (x y : Entry) (es : List Entry) (a b : Bool) → is_clean y.it.low ≡ a → is_start y.it.low ≡ b
      → Half (record { place = p; entries = x ∷ (y ∷ es); ending = e })
  unfolding first_mended paired
  half_pair x y es true b g k = half_by x y es true true (ap₂ (λ (u v : Bool). u || v) k g ∙ or_on b) (rw (paired, g))
  half_pair x y es false true g k = half_by x y es false true (ap₂ (λ (u v : Bool). u || v) k g) (rw (paired, g, k))
  half_pair x y es false false g k =
      half_by x y es (is_clean x.it.low) false (ap₂ (λ (u v : Bool). u || v) k g) (rw (paired, g, k))

  half_of : (es : List Entry) → Half (record { place = p; entries = es; ending = e })
  unfolding first_mended behind behind_place
  half_of [] = record { t = false; entries = refl; place = refl; ending = refl }
  half_of (x ∷ []) = record { t = is_clean x.it.low; entries = refl; place = refl; ending = refl }
  half_of (x ∷ (y ∷ es)) = half_pair x y es _ _ refl refl

pub half : (r : Reading) → Half r
half r = half_of r.place r.ending r.entries

-- ---- a statement on each record

-- that does not speak of low bytes
module _ (P : Entry → Type 0) (low : (b : ℕ) (e : Entry) → P e → P (with_low b e)) where
  each_lowered : (t : Bool) (es : List Entry) → Each P es → Each P (lowered t es)
  each_lowered t [] k = k
  each_lowered true (x ∷ es) k = (low 0x00 x k.0, k.1)
  each_lowered false (x ∷ es) k = k

  each_behind : (es : List Entry) (t : Bool) → second_marked es ≡ t → Each P es → Each P (behind es)
  unfolding behind
  each_behind [] t m k = k
  each_behind (x ∷ es) true m k = rw (behind, m) k.1
  each_behind (x ∷ es) false m k = rw (behind, m) k

  pub each_half : (r : Reading) → Each P r.entries → Each P (half_mended r).entries
  each_half r k =
      let h = half r in
      subst (Each P) (sym h.entries) (each_lowered h.t (behind r.entries) (each_behind r.entries _ refl k))

-- ---- what the rule on the second record says

marks_second : (x y : Entry) (es : List Entry) → marks_ok (x ∷ (y ∷ es)) ≡ true → second_ok (x ∷ (y ∷ es)) x y ≡ true
unfolding marks_ok
marks_second x y es m = and_left (second_ok (x ∷ (y ∷ es)) x y) (not (any marked es)) m

-- of a START or CLEAN Y: X is not live, and a START Y is in X's sector
marked_second : (es : List Entry) (x y : Entry) → second_ok es x y ≡ true → marked y ≡ true
    → (live es x ≡ false) × ((is_clean y.it.low || eqb (floor y.at) (floor x.at)) ≡ true)
unfolding second_ok
marked_second es x y h m =
    let near : Bool = is_clean y.it.low || eqb (floor y.at) (floor x.at) in
    let p : (not (live es x) && near) ≡ true = rw (second_ok, m) at h in
    (not_true (live es x) (and_left (not (live es x)) near p), and_right (not (live es x)) near p)

pub second_dead : (x y : Entry) (es : List Entry) → marks_ok (x ∷ (y ∷ es)) ≡ true → marked y ≡ true → live (x ∷ (y ∷ es)) x ≡ false
second_dead x y es m k = (marked_second (x ∷ (y ∷ es)) x y (marks_second x y es m) k).0

start_if_at : (t : Bool) (x : Entry) → (start_if t x).at ≡ x.at
start_if_at true x = refl
start_if_at false x = refl

pub start_near : (es : List Entry) → marks_ok es ≡ true → StartNear (started es)
start_near [] m = tt
start_near (x ∷ []) m = tt
start_near (x ∷ (y ∷ es)) m =
    λ c s.
    let k = marked_second (x ∷ (y ∷ es)) x y (marks_second x y es m) (ap (λ (t : Bool). t || is_clean y.it.low) s) in
    let q : eqb (floor y.at) (floor x.at) ≡ true = sym (ap (λ (t : Bool). t || eqb (floor y.at) (floor x.at)) c) ∙ k.1 in
    eqb-true (floor y.at) (floor x.at) q ∙ ap floor (sym (start_if_at (is_clean x.it.low) x))
