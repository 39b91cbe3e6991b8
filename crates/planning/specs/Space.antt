-- Request K3: live, dead, free and lost bytes sum to N, wherever a chain without a torn wrap is read, and can be told from the reading
-- alone.
use Prim.Native.Nat.{ℕ, ◌+◌, ◌-◌, ◌≤◌, ◌<◌}
use Rattle.std.proofs.Common.{arith, ap₂, ◌∙◌, subst, inl, inr, append-nil}
use Rattle.std.specs.Prelude.{◌≡◌, refl, ◌⊎◌, Bool, not, List, [], ◌∷◌, ◌++◌, eqb, leb}
use Rattle.std.proofs.Math.Path.{sym, ap}
use Rattle.std.proofs.Math.Logic.{⊎_elim}
use Rattle.std.proofs.Math.Bool.{true, false}
use Rattle.std.proofs.Math.Option.{Option, none, some}
use Rattle.std.proofs.Math.ListN.{length}
use Rattle.std.proofs.Math.Dec.{ltb}
use borrow.Author.Tests.{eq-eqb, ne_eqb, le-leb, lt-leb, lt-ltb, le-ltb}
use Rattle.spec.specs.declared.Next.{Next}
use Rattle.spec.specs.declared.Ending.{Ending}
use Rattle.spec.specs.Step.{Image}
use Rattle.spec.specs.Basics.{keep, part}
use Rattle.spec.specs.Geometry.{floor}
use Rattle.spec.specs.Record.{Entry}
use Rattle.spec.specs.Chain.{Reading, read, from_head}
use Rattle.spec.specs.Files.{live}
use Rattle.spec.specs.declared.Space.{Space}
use Rattle.spec.specs.Space.{sizes, live_bytes, others, marker_of, free_bytes}
use Rattle.spec.specs.Space.{space_by, space_of}
use Rattle.laws.specs.Tests.{wrong}
use Rattle.laws.specs.Lists.{keep_yes, keep_no}
use Rattle.laws.specs.Fits.{Fits, allowed_fits}
use Rattle.planning.specs.Row.{stretch_length, Row, row_none, row_more, row_end}
use Rattle.planning.specs.Frame.{row_le}
use Rattle.planning.specs.Stops.{Stop, EndsHere, here_clear, here_over, Turns, turn_wrap, turn_over, here_tag, turn_tag}
use Rattle.planning.specs.Reads.{Reads, reads_here, reads_round, reads_torn, reads_reading, chain_of, head_chain, stopping}

abbrev pub total : Space → ℕ
total s = s.live + s.dead + s.free + s.lost

-- ---- sizes

pub sizes_both : (es fs : List Entry) → sizes (es ++ fs) ≡ sizes es + sizes fs
sizes_both [] fs = omega arith
sizes_both (e ∷ es) fs = omega (arith, sizes_both es fs)

-- each record passes a test or doesn't
pub sizes_kept : (p : Entry → Bool) (es : List Entry) → sizes (keep p es) + sizes (keep (λ e. not (p e)) es) ≡ sizes es
sizes_kept p [] = refl
sizes_kept p (e ∷ es) = go (p e) refl (sizes_kept p es) where
  go : (t : Bool) → p e ≡ t → sizes (keep p es) + sizes (keep (λ e. not (p e)) es) ≡ sizes es
      → sizes (keep p (e ∷ es)) + sizes (keep (λ e. not (p e)) (e ∷ es)) ≡ sizes (e ∷ es)
  go true q ih = omega (arith, ap sizes (keep_yes p e es q), ap sizes (keep_no (λ e. not (p e)) e es (ap not q)))
  go false q ih = omega (arith, ap sizes (keep_no p e es q), ap sizes (keep_yes (λ e. not (p e)) e es (ap not q)))

-- a live record, or one of the others
pub sizes_all : (es : List Entry) → live_bytes es + sizes (others es) ≡ sizes es
sizes_all es = sizes_kept (live es) es

-- a row is as long as its records
pub row_sizes : {im : Image} {lim : ℕ} {o : Bool} {a : ℕ} {es : List Entry} {p : Bool} {b : ℕ} → Row im lim o a es p b → a + sizes es ≡ b
row_sizes row_none = omega arith
row_sizes (row_more e q w r) = omega (arith, row_sizes r)

-- ---- the marker, told from the reading

-- of these records, those up to the turn: they stand at the head or above it
abbrev pub upper : ℕ → List Entry → List Entry
upper h es = keep (λ e. leb h e.at) es

-- behind the last of them, at b, unless that is N
unfoldable pub marker_at : ℕ → ℕ → Option ℕ
marker_at N b = elim (ltb b N) [ true ↦ some b | false ↦ none ]

-- after a turn
unfoldable pub marker_told : Reading → Option ℕ
marker_told r =
    let p = r.place in
    elim p.turned [ true ↦ marker_at p.length (p.head + sizes (upper p.head r.entries)) | false ↦ none ]

module _ {im : Image} {lim : ℕ} (h : ℕ) where
  pub row_upper : {o : Bool} {a : ℕ} {es : List Entry} {p : Bool} {b : ℕ} (fs : List Entry) → h ≤ a → Row im lim o a es p b
      → sizes (upper h (es ++ fs)) ≡ sizes es + sizes (upper h fs)
  row_upper fs l row_none = omega arith
  row_upper fs l (row_more {es = es} e q w r) =
      omega (arith, ap sizes (keep_yes (λ e. leb h e.at) e (es ++ fs) (le-leb h e.at (omega arith))), row_upper fs (omega arith) r)

  pub row_lower : {o : Bool} {a : ℕ} {es : List Entry} {p : Bool} {b : ℕ} → b ≤ h → Row im lim o a es p b → sizes (upper h es) ≡ 0
  row_lower l row_none = refl
  row_lower l (row_more {es = es} e q w r) =
      ap sizes (keep_no (λ e. leb h e.at) e es (lt-leb h e.at (omega (arith, row_le r)))) ∙ row_lower l r

-- the records below the head end at the tail; the others stand before the turn
pub turned_upper : {im : Image} {h : ℕ} {r : Reading} → Reads im h r → r.place.turned ≡ true
    → sizes (upper h r.entries) + r.place.tail ≡ sizes r.entries
turned_upper (reads_here row s m e) t = wrong (sym (ap (λ (z : Reading). z.place.turned) e) ∙ t)
turned_upper {h = h} (reads_round {es = es} {fs = fs} row s m n rows u v e) t =
    let low = row_end (omega arith) rows in
    rw e
    (omega (arith, row_upper h fs (omega arith) row, row_lower h (omega (arith, low.1)) rows, sizes_both es fs, row_sizes rows))
turned_upper {h = h} (reads_torn {es = es} row s n e) t =
    let all : sizes (upper h es) ≡ sizes es =
    ap (λ (l : List Entry). sizes (upper h l)) (sym (append-nil es)) ∙ row_upper h [] (omega arith) row ∙ omega arith in
    rw e (omega (arith, all))

-- ---- the two forms without a torn wrap

abbrev tail_read : ℕ → ℕ → ℕ → Bool → List Entry → Reading
tail_read N h T t es = read N h T t es Ending.Tail

record Counted (im : Image) (h : ℕ) (r : Reading) : Type 0 where
  marker : marker_of h (from_head im h) ≡ marker_told r
  sum : total (space_by r (marker_told r)) ≡ length im

-- a chain that ends here has no marker
unmarked : (h : ℕ) (es : List Entry) (p : Bool) (T : ℕ) (x : Next) → EndsHere (floor h) x → (z : Bool) → eqb (floor h) 0 ≡ z
    → marker_of h (chain_of es p T x) ≡ none
unfolding marker_of
unmarked h es p T x here_clear true e = rw (marker_of, e)
unmarked h es p T x here_clear false e = rw (marker_of, e)
unmarked h es p T x (here_over q) z e = rw (marker_of, eq-eqb (floor h) 0 q)

-- a chain that turns has one, unless it turns at N
module _ (im : Image) (h : ℕ) (es : List Entry) (p : Bool) (b : ℕ) (n : floor h ≡ 0 → ⊥) (k : b ≤ length im) where
  abbrev N : ℕ
  N = length im

  abbrev behind : List ℕ
  behind = part b N im

  turn_fits : (x : Next) → Stop im N p b x → Fits x (length behind)
  turn_fits x s = subst (λ (y : Next). Fits y (length behind)) s (allowed_fits p behind)

  turn_marker : (x : Next) → Turns x → Stop im N p b x
      → (((marker_at N b ≡ some b) × (b + 8 ≤ N)) ⊎ ((marker_at N b ≡ none) × (b ≡ N))) × (marker_of h (chain_of es p b x) ≡ marker_at N b)
  unfolding marker_of marker_at
  turn_marker x turn_wrap s =
      let f : 8 ≤ length behind = turn_fits Next.Wrap s in
      let g : b + 8 ≤ N = omega (arith, stretch_length im b N k (omega arith)) in
      let q : ltb b N ≡ true = lt-ltb b N (omega arith) in
      (inl (rw (marker_at, q), g), rw (marker_of, marker_at, ne_eqb (floor h) 0 n, q))
  turn_marker x turn_over s =
      let f : length behind < 1 = turn_fits Next.Over s in
      let g : b ≡ N = omega (arith, stretch_length im b N k (omega arith)) in
      let q : ltb b N ≡ false = le-ltb b N (omega arith) in
      (inr (rw (marker_at, q), g), rw (marker_of, marker_at, ne_eqb (floor h) 0 n, q))

module _ {im : Image} {h : ℕ} (l : h ≤ length im) where
  here_counted : {es : List Entry} {p : Bool} {T : ℕ} {x : Next} → Row im (length im) false h es p T → Stop im (length im) p T x
      → EndsHere (floor h) x → Counted im h (tail_read (length im) h T false es)
  unfolding marker_told free_bytes
  here_counted {es} {p} {T} {x} row s m =
      let end = row_end l row in
      record {
        marker = ap (marker_of h) (head_chain x l row s (stopping x (omega (arith, (here_tag m).0)))) ∙ unmarked h es p T x m _ refl;
        sum = omega (arith, row_sizes row, end.1, sizes_all es);
      }

  round_counted : {es fs : List Entry} {p q : Bool} {b T : ℕ} {x : Next} → Row im (length im) false h es p b → Stop im (length im) p b x
      → Turns x
      → (floor h ≡ 0 → ⊥) → Row im (floor h) p 0 fs q T → Counted im h (tail_read (length im) h T true (es ++ fs))
  unfolding marker_told free_bytes
  round_counted {es} {fs} {p} {q} {b} {T} {x} row s t n rows =
      let N : ℕ = length im in
      let r : Reading = tail_read N h T true (es ++ fs) in
      let end = row_end l row in
      let low = row_end (omega arith) rows in
      let m = turn_marker im h es p b n end.1 x t s in
      let up : h + sizes (upper h (es ++ fs))
      ≡ b = omega (arith, row_upper h fs (omega arith) row, row_lower h (omega (arith, low.1)) rows, row_sizes row) in
      let told : marker_told r ≡ marker_at N b = ap (marker_at N) up in
      let all : live_bytes (es ++ fs) + sizes (others (es ++ fs)) ≡ (b - h) + T =
      sizes_all (es ++ fs) ∙ omega (arith, sizes_both es fs, row_sizes row, row_sizes rows) in
      record {
        marker = ap (marker_of h) (head_chain x l row s (stopping x (turn_tag t).0)) ∙ m.1 ∙ sym told;
        sum =
            ⊎_elim
            (λ (w : (marker_at N b ≡ some b) × (b + 8 ≤ N)).
            ap (λ (o : Option ℕ). total (space_by r o)) (told ∙ w.0) ∙ omega (arith, all, w.1, low.1, row_sizes row))
            (λ (w : (marker_at N b ≡ none) × (b ≡ N)).
            ap (λ (o : Option ℕ). total (space_by r o)) (told ∙ w.0) ∙ omega (arith, all, w.1, low.1, row_sizes row)) m.0;
      }

-- ---- every image, every head

counted : {im : Image} {h : ℕ} {r : Reading} → h ≤ length im → Reads im h r → r.ending ≡ Ending.Tail → Counted im h r
counted {im} {h} l (reads_here row s m e) t = subst (Counted im h) (sym e) (here_counted l row s m)
counted {im} {h} l (reads_round row s m n rows u v e) t = subst (Counted im h) (sym e) (round_counted l row s m n rows)
counted {im} {h} {r} l (reads_torn row s n e) t = absurd (torn_not (sym t ∙ ap (λ (z : Reading). z.ending) e)) where
  torn_not : {b : ℕ} → Ending.Tail ≡ Ending.TornWrap b → ⊥
  torn_not z = let y : ◌≡◌ {A = ℕ} 0 1 = cc in omega arith

module _ {im : Image} {h : ℕ} {r : Reading} (l : h ≤ length im) (w : Reads im h r) (t : r.ending ≡ Ending.Tail) where
  -- the four numbers need no more than the reading
  pub space_told : space_of im h ≡ space_by r (marker_told r)
  space_told = ap₂ space_by (reads_reading l w) (counted l w t).marker

  -- THE sum: "they sum to N"
  pub space_sum : total (space_of im h) ≡ length im
  space_sum = ap total space_told ∙ (counted l w t).sum
