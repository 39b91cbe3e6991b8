-- What the steps of put and of a copy do to the bytes.
use Rattle.std.specs.Prelude.{ℕ, ◌+◌, ◌-◌, ◌≤◌, ◌<◌, ◌≡◌, ◌⊎◌, Bool, false, length, get_or}
use Rattle.std.proofs.Common.{arith, sym, ap, subst, inl, inr, ⊎_elim}
use Rattle.std.proofs.Math.Path.{refl}
use Rattle.std.proofs.Math.Bool.{true}
use Rattle.std.proofs.Math.Option.{some}
use mathlib.Core.List.{List, [], ◌∷◌, ◌++◌}
use Rattle.spec.specs.declared.Place.{Place}
use Rattle.spec.specs.Step.{Step, program, erase, bytes_at, shifted}
use Rattle.spec.specs.Geometry.{up8}
use Rattle.spec.specs.Bytes.{is_committed}
use Rattle.spec.specs.Record.{four, size_of, Entry, name_of, content_of}
use Rattle.spec.specs.Place.{address, with_marker}
use Rattle.spec.specs.Write.{status_step, migrate_steps, delete_steps, marker_steps, header_steps, name_end_steps, name_steps, data_steps}
use Rattle.spec.specs.Write.{commit_steps, record_steps, turn_steps, put_steps}
use Rattle.laws.specs.Parts.{Outside}
use Rattle.planning.specs.Planned.{with_low}
use Rattle.planning.specs.Effect.{Untouched, Writes, Bounded, untouched_append, writes_left, writes_right, bounded_append}
use Rattle.planning.specs.Effect.{untouched_bytes, writes_bytes, bounded_bytes, untouched_shifted, writes_shifted}

-- ---- a record, from its start on

module _ (name content : List ℕ) where
  abbrev n : ℕ
  n = length name

  abbrev d : ℕ
  d = length content

  abbrev rest_steps : List Step
  rest_steps = name_steps name ++ (data_steps n content ++ commit_steps)

  lens_off : (i : ℕ) → Outside i 4 4 → Untouched i (bytes_at 4 (four d))
  lens_off i o = untouched_bytes i 4 (four d) o

  header_off : (i : ℕ) → (i ≡ 0 → ⊥) → (i ≡ 1 → ⊥) → (i ≡ 2 → ⊥) → Outside i 4 4 → Untouched i (header_steps d)
  header_off i p q r o = (p, (q, untouched_append i (bytes_at 4 (four d)) (program 2 0xFE ∷ []) (lens_off i o) (r, tt)))

  name_off : (i : ℕ) → Outside i 8 (n + 1) → Untouched i (name_steps name)
  name_off i o =
      untouched_append i (bytes_at 8 name) (name_end_steps (8 + n))
      (untouched_bytes i 8 name (⊎_elim (λ (h : i < 8). inl h) (λ (h : 8 + (n + 1) ≤ i). inr (omega arith)) o)) (
        ⊎_elim (λ (h : i < 8). λ q. omega arith) (λ (h : 8 + (n + 1) ≤ i). λ q. omega arith) o,
        (⊎_elim (λ (h : i < 8). λ q. omega arith) (λ (h : 8 + (n + 1) ≤ i). λ q. omega arith) o, tt),
      )

  data_off : (i : ℕ) → Outside i (8 + up8 (n + 1)) d → Untouched i (data_steps n content)
  data_off i o = untouched_bytes i (8 + up8 (n + 1)) content o

  rest_off : (i : ℕ) → (i ≡ 2 → ⊥) → Outside i 8 (n + 1) → Outside i (8 + up8 (n + 1)) d → Untouched i rest_steps
  rest_off i r o p =
      untouched_append i (name_steps name) (data_steps n content ++ commit_steps) (name_off i o)
      (untouched_append i (data_steps n content) commit_steps (data_off i p) (r, tt))

  pub record_off : (i : ℕ) → (i ≡ 3) ⊎ (size_of n d ≤ i) → Untouched i (record_steps name content)
  record_off i o =
      ⊎_elim
      (λ (h : i ≡ 3). untouched_append i (header_steps d) rest_steps
      (header_off i (λ q. omega arith) (λ q. omega arith) (λ q. omega arith) (inl (omega arith)))
      (rest_off i (λ q. omega arith) (inl (omega arith)) (inl (omega arith))))
      (λ (h : size_of n d ≤ i). untouched_append i (header_steps d) rest_steps
      (header_off i (λ q. omega arith) (λ q. omega arith) (λ q. omega arith) (inr (omega arith)))
      (rest_off i (λ q. omega arith) (inr (omega arith)) (inr (omega arith))))
      o

  pub record_low : Writes (record_steps name content) 0 0xA5
  record_low =
      inr (
        refl,
        refl,
        (
          λ q. omega arith,
          untouched_append 0 (bytes_at 4 (four d) ++ (program 2 0xFE ∷ [])) rest_steps
              (untouched_append 0 (bytes_at 4 (four d)) (program 2 0xFE ∷ []) (lens_off 0 (inl (omega arith))) (λ q. omega arith, tt))
              (rest_off 0 (λ q. omega arith) (inl (omega arith)) (inl (omega arith))),
        ),
      )

  pub record_high : Writes (record_steps name content) 1 0x5A
  record_high =
      inl (inr (
        refl,
        refl,
        untouched_append 1 (bytes_at 4 (four d) ++ (program 2 0xFE ∷ [])) rest_steps
            (untouched_append 1 (bytes_at 4 (four d)) (program 2 0xFE ∷ []) (lens_off 1 (inl (omega arith))) (λ q. omega arith, tt))
            (rest_off 1 (λ q. omega arith) (inl (omega arith)) (inl (omega arith))),
      ))

  pub record_status : Writes (record_steps name content) 2 0xFC
  record_status =
      writes_right (header_steps d) rest_steps 2 0xFC
      (writes_right (name_steps name) (data_steps n content ++ commit_steps) 2 0xFC
      (writes_right (data_steps n content) commit_steps 2 0xFC (inr (refl, refl, tt))))

  pub record_lens : (j : ℕ) → j < 4 → Writes (record_steps name content) (4 + j) (get_or (four d) j 0)
  record_lens j h =
      let i : ℕ = 4 + j in
      writes_left (header_steps d) rest_steps i (get_or (four d) j 0)
      (inl (inl (writes_left (bytes_at 4 (four d)) (program 2 0xFE ∷ []) i (get_or (four d) j 0) (writes_bytes 4 j (four d) h)
      (λ q. omega arith, tt))))
      (rest_off i (λ q. omega arith) (inl (omega arith)) (inl (omega arith)))

  pub record_name : (j : ℕ) → j < n → Writes (record_steps name content) (8 + j) (get_or name j 0)
  record_name j h =
      let i : ℕ = 8 + j in
      let x : ℕ = get_or name j 0 in
      writes_right (header_steps d) rest_steps i x
      (writes_left (name_steps name) (data_steps n content ++ commit_steps) i x
      (writes_left (bytes_at 8 name) (name_end_steps (8 + n)) i x (writes_bytes 8 j name h) (λ q. omega arith, (λ q. omega arith, tt)))
      (untouched_append i (data_steps n content) commit_steps (data_off i (inl (omega arith))) (λ q. omega arith, tt)))

  pub record_end : Writes (record_steps name content) (8 + n) 0x00
  record_end =
      let i : ℕ = 8 + n in
      writes_right (header_steps d) rest_steps i 0x00
      (writes_left (name_steps name) (data_steps n content ++ commit_steps) i 0x00
      (writes_right (bytes_at 8 name) (name_end_steps (8 + n)) i 0x00 (inl (inr (refl, refl, tt))))
      (untouched_append i (data_steps n content) commit_steps (data_off i (inl (omega arith))) (λ q. omega arith, tt)))

  pub record_content : (j : ℕ) → j < d → Writes (record_steps name content) (8 + up8 (n + 1) + j) (get_or content j 0)
  record_content j h =
      let i : ℕ = 8 + up8 (n + 1) + j in
      let x : ℕ = get_or content j 0 in
      writes_right (header_steps d) rest_steps i x
      (writes_right (name_steps name) (data_steps n content ++ commit_steps) i x
      (writes_left (data_steps n content) commit_steps i x (writes_bytes (8 + up8 (n + 1)) j content h) (λ q. omega arith, tt)))

  pub record_bounded : (N : ℕ) → Bounded N (record_steps name content)
  record_bounded N =
      bounded_append N (bytes_at 4 (four d) ++ (program 2 0xFE ∷ [])) rest_steps
      (bounded_append N (bytes_at 4 (four d)) (program 2 0xFE ∷ []) (bounded_bytes N 4 (four d)) tt)
      (bounded_append N (name_steps name) (data_steps n content ++ commit_steps)
      (bounded_append N (bytes_at 8 name) (name_end_steps (8 + n)) (bounded_bytes N 8 name) tt)
      (bounded_append N (data_steps n content) commit_steps (bounded_bytes N (8 + up8 (n + 1)) content) tt))

-- ---- steps from an address on

pub untouched_below : (a i : ℕ) (ss : List Step) → i < a → Untouched i (shifted a ss)
untouched_below a i [] h = tt
untouched_below a i (program k x ∷ ss) h = (λ q. omega arith, untouched_below a i ss h)
untouched_below a i (erase k ∷ ss) h = (inl (omega arith), untouched_below a i ss h)

-- steps that erase nothing
pub bounded_shifted : (N a : ℕ) (ss : List Step) → Bounded 0 ss → Bounded N (shifted a ss)
bounded_shifted N a [] w = tt
bounded_shifted N a (program k x ∷ ss) w = bounded_shifted N a ss w
bounded_shifted N a (erase k ∷ ss) w = absurd (omega (arith, w.0))

-- a marker at T
pub marker_off : (T i : ℕ) → Outside i T 3 → Untouched i (shifted T marker_steps)
marker_off T i (inl h) = (λ q. omega arith, (λ q. omega arith, (λ q. omega arith, tt)))
marker_off T i (inr h) = (λ q. omega arith, (λ q. omega arith, (λ q. omega arith, tt)))

-- ---- the whole list

module _ (p : Place) (x : Entry) (name content : List ℕ) where
  abbrev s : ℕ
  s = size_of (length name) (length content)

  abbrev a : ℕ
  a = address p s

  abbrev copy : List Step
  copy = shifted a (record_steps name content)

  abbrev gone : List Step
  gone = delete_steps (some x)

  migrate_is : (t : Bool) → is_committed x.it.status ≡ t
      → migrate_steps (some x) ≡ elim t [ true ↦ status_step x 0xF8 ∷ [] | false ↦ [] ]
  migrate_is t e = ap (λ (u : Bool). elim u [ true ↦ status_step x 0xF8 ∷ [] | false ↦ [] ]) e

  turn_is : (t : Bool) → with_marker p s ≡ t → turn_steps p s ≡ elim t [ true ↦ shifted p.tail marker_steps | false ↦ [] ]
  turn_is t e = ap (λ (u : Bool). elim u [ true ↦ shifted p.tail marker_steps | false ↦ [] ]) e

  migrate_off : (i : ℕ) → (i ≡ x.at + 2 → ⊥) → (t : Bool) → is_committed x.it.status ≡ t → Untouched i (migrate_steps (some x))
  migrate_off i h true e = rw (migrate_is true e) (h, tt)
  migrate_off i h false e = rw (migrate_is false e) tt

  migrate_bounded : (N : ℕ) (t : Bool) → is_committed x.it.status ≡ t → Bounded N (migrate_steps (some x))
  migrate_bounded N true e = rw (migrate_is true e) tt
  migrate_bounded N false e = rw (migrate_is false e) tt

  turn_off : (i : ℕ) (t : Bool) → with_marker p s ≡ t → (t ≡ true → Outside i p.tail 3) → Untouched i (turn_steps p s)
  turn_off i true e o = rw (turn_is true e) (marker_off p.tail i (o refl))
  turn_off i false e o = rw (turn_is false e) tt

  turn_bounded : (N : ℕ) (t : Bool) → with_marker p s ≡ t → Bounded N (turn_steps p s)
  turn_bounded N true e = rw (turn_is true e) tt
  turn_bounded N false e = rw (turn_is false e) tt

  pub copy_off : (i : ℕ) → Outside i a s → Untouched i copy
  copy_off i o =
      ⊎_elim
      (λ (h : i < a). untouched_below a i (record_steps name content) h)
      (λ (h : a + s ≤ i).
      let q : a + (i - a) ≡ i = omega arith in
      subst (λ (k : ℕ). Untouched k copy) q
      (untouched_shifted a (i - a) (record_steps name content) (record_off name content (i - a) (inr (omega arith)))))
      o

  -- the old record's status
  pub put_deletes : Writes (put_steps p (some x) name content) (x.at + 2) 0x00
  unfolding put_steps
  put_deletes =
      writes_right (migrate_steps (some x)) (turn_steps p s ++ (copy ++ gone)) (x.at + 2) 0x00
      (writes_right (turn_steps p s) (copy ++ gone) (x.at + 2) 0x00 (writes_right copy gone (x.at + 2) 0x00 (inr (refl, refl, tt))))

  -- the new record's bytes
  pub put_writes : (i b : ℕ) → (a + i ≡ x.at + 2 → ⊥) → Writes (record_steps name content) i b
      → Writes (put_steps p (some x) name content) (a + i) b
  unfolding put_steps
  put_writes i b n w =
      writes_right (migrate_steps (some x)) (turn_steps p s ++ (copy ++ gone)) (a + i) b
      (writes_right (turn_steps p s) (copy ++ gone) (a + i) b
      (writes_left copy gone (a + i) b (writes_shifted a i b (record_steps name content) w) (n, tt)))

  -- the marker's bytes
  pub put_marks : with_marker p s ≡ true → (i b : ℕ) → Writes marker_steps i b → (p.tail + i ≡ x.at + 2 → ⊥) → Outside (p.tail + i) a s
      → Writes (put_steps p (some x) name content) (p.tail + i) b
  unfolding put_steps
  put_marks e i b w n o =
      let t : turn_steps p s ≡ shifted p.tail marker_steps = turn_is true e in
      writes_right (migrate_steps (some x)) (turn_steps p s ++ (copy ++ gone)) (p.tail + i) b
      (writes_left (turn_steps p s) (copy ++ gone) (p.tail + i) b
      (subst (λ (l : List Step). Writes l (p.tail + i) b) (sym t) (writes_shifted p.tail i b marker_steps w))
      (untouched_append (p.tail + i) copy gone (copy_off (p.tail + i) o) (n, tt)))

  -- all else
  pub put_off : (i : ℕ) → (i ≡ x.at + 2 → ⊥) → Untouched i copy → (with_marker p s ≡ true → Outside i p.tail 3)
      → Untouched i (put_steps p (some x) name content)
  unfolding put_steps
  put_off i n c o =
      untouched_append i (migrate_steps (some x)) (turn_steps p s ++ (copy ++ gone)) (migrate_off i n _ refl)
      (untouched_append i (turn_steps p s) (copy ++ gone) (turn_off i _ refl o) (untouched_append i copy gone c (n, tt)))

  pub put_bounded : (N : ℕ) → Bounded N (put_steps p (some x) name content)
  unfolding put_steps
  put_bounded N =
      bounded_append N (migrate_steps (some x)) (turn_steps p s ++ (copy ++ gone)) (migrate_bounded N _ refl)
      (bounded_append N (turn_steps p s) (copy ++ gone) (turn_bounded N _ refl)
      (bounded_append N copy gone (bounded_shifted N a (record_steps name content) (record_bounded name content 0)) tt))

-- X's first byte is not looked at
pub put_low : (p : Place) (b : ℕ) (x : Entry)
    → put_steps p (some (with_low b x)) (name_of x) (content_of x) ≡ put_steps p (some x) (name_of x) (content_of x)
unfolding put_steps
put_low p b x = refl
