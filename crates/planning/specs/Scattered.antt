-- No two records of a reading stand at one address.
use Rattle.std.specs.Prelude.{ℕ, ◌+◌, ◌≤◌, ◌<◌, ◌≡◌, Bool, List, [], ◌∷◌, ◌++◌}
use Rattle.std.proofs.Common.{arith, sym, subst}
use Rattle.spec.specs.Step.{Image}
use Rattle.spec.specs.Basics.{Each}
use Rattle.spec.specs.Record.{Entry, size}
use Rattle.spec.specs.Chain.{Reading}
use Rattle.laws.specs.Lists.{each_map, each_append}
use Rattle.planning.specs.Row.{Row, row_none, row_more, row_end}
use Rattle.planning.specs.Frame.{row_le}
use Rattle.planning.specs.Reads.{Reads, reads_here, reads_round, reads_torn}

abbrev pub Scattered : List Entry → Type 0
Scattered [] = Unit {0}
Scattered (x ∷ xs) = Each (λ y. y.at ≡ x.at → ⊥) xs × Scattered xs

-- the records of a row stand in it
row_between : {im : Image} {lim : ℕ} {o : Bool} {a : ℕ} {es : List Entry} {p : Bool} {b : ℕ} → Row im lim o a es p b
    → Each (λ e. (a ≤ e.at) × (e.at < b)) es
row_between row_none = tt
row_between {b = b} (row_more {a = a} {es = es} e q w r) = (
  (omega arith, omega (arith, row_le r)),
  each_map {P = λ f. (a + size e ≤ f.at) × (f.at < b)} {Q = λ f. (a ≤ f.at) × (f.at < b)} es (λ f u. (omega (arith, u.0), u.1))
      (row_between r),
)

row_scattered : {im : Image} {lim : ℕ} {o : Bool} {a : ℕ} {es : List Entry} {p : Bool} {b : ℕ} → Row im lim o a es p b → Scattered es
row_scattered row_none = tt
row_scattered {b = b} (row_more {a = a} {es = es} e q w r) = (
  each_map {P = λ f. (a + size e ≤ f.at) × (f.at < b)} {Q = λ f. f.at ≡ e.at → ⊥} es (λ f u z. omega (arith, u.0)) (row_between r),
  row_scattered r,
)

-- those of two rows, the second below k and the first not
scattered_both : (k : ℕ) (es fs : List Entry) → Each (λ e. k ≤ e.at) es → Each (λ e. e.at < k) fs → Scattered es → Scattered fs
    → Scattered (es ++ fs)
scattered_both k [] fs a b s t = t
scattered_both k (e ∷ es) fs a b s t = (
  each_append (λ f. f.at ≡ e.at → ⊥) es fs s.0
      (each_map {P = λ f. f.at < k} {Q = λ f. f.at ≡ e.at → ⊥} fs (λ f u z. omega (arith, a.0)) b),
  scattered_both k es fs a.1 b s.1 t,
)

pub reads_scattered : {im : Image} {h : ℕ} {r : Reading} → Reads im h r → Scattered r.entries
reads_scattered (reads_here row s m e) = subst (λ (z : Reading). Scattered z.entries) (sym e) (row_scattered row)
reads_scattered (reads_torn row s n e) = subst (λ (z : Reading). Scattered z.entries) (sym e) (row_scattered row)
reads_scattered {h = h} (reads_round {es = es} {fs = fs} {b = b} {T = T} row s t n rows k m e) =
    let end = row_end (omega arith) rows in
    subst (λ (z : Reading). Scattered z.entries) (sym e)
    (scattered_both h es fs
    (each_map {P = λ f. (h ≤ f.at) × (f.at < b)} {Q = λ f. h ≤ f.at} es (λ f u. u.0) (row_between row))
    (each_map {P = λ f. (0 ≤ f.at) × (f.at < T)} {Q = λ f. f.at < h} fs (λ f u. omega (arith, u.1, end.1)) (row_between rows))
    (row_scattered row) (row_scattered rows))
