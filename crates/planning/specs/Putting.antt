-- A new record, the three ways: it goes to the tail before the turn, to 0 behind a marker, to the tail after the turn. The record that it
-- replaces, if there is one, is dead then. For a put, and for step (a) of a move.
use Rattle.std.specs.Prelude.{ℕ, ◌+◌, ◌%◌, ◌≤◌, ◌<◌, ◌≡◌, ◌⊎◌, Bool, true, false, List, [], ◌∷◌, ◌++◌, map, length, get_or, ltb}
use Rattle.std.proofs.Common.{arith, sym, ap₂, ◌∙◌, subst, inl, inr, ⊎_elim, append_assoc, ltb-true, ltb-false}
use Rattle.std.proofs.Math.Path.{refl, ap}
use Rattle.std.proofs.lemmas.Bool.{false≢true}
use Rattle.std.proofs.lemmas.List.{map-append}
use Rattle.spec.specs.declared.Next.{Next}
use Rattle.spec.specs.declared.Ending.{Ending}
use Rattle.spec.specs.declared.Place.{Place}
use Rattle.spec.specs.Step.{Image}
use Rattle.spec.specs.Basics.{Each}
use Rattle.spec.specs.Geometry.{floor}
use Rattle.spec.specs.Record.{Entry, name_of, size}
use Rattle.spec.specs.Chain.{Reading}
use Rattle.spec.specs.Place.{fits_at_tail, fits, address, with_marker}
use Rattle.laws.specs.Tests.{not_both}
use Rattle.laws.specs.Lists.{each_append, each_left, each_right}
use Rattle.laws.specs.Length.{Good}
use Rattle.laws.specs.Settled.{last_pending, last_open}
use Rattle.laws.specs.Parts.{Outside}
use Rattle.planning.specs.Planned.{come_round, copied_place, copy_of}
use Rattle.planning.specs.Kinds.{committed_finished}
use Rattle.planning.specs.Row.{Row, row_none, row_more, row_end}
use Rattle.planning.specs.Frame.{row_append}
use Rattle.planning.specs.Spots.{Free, Nameable}
use Rattle.planning.specs.Stops.{Stop, EndsHere, here_clear, here_over, Turns, turn_wrap, clear_free, stop_last}
use Rattle.planning.specs.Reads.{Reads}
use Rattle.planning.specs.Places.{place_of, round_turned, tail_address, tail_unmarked, tail_after, tail_room}
use Rattle.planning.specs.Places.{zero_address, zero_marked, zero_turned, zero_after}
use Rattle.planning.specs.Dropped.{Aside, drop_if, row_aside, row_dropped, row_inside}
use Rattle.planning.specs.Rested.{FreeRun, run_turned, run_round, straight_reads, turned_reads, row_words, Finished}
use Rattle.planning.specs.NewCopy.{new, new_length, new_same, new_status, new_wrap, new_stands}

-- ---- the record that is replaced

-- q takes it from among the records es of an image of N bytes: it stands at a, and is finished. With a outside of the image q takes none
pub record Replaced (q : Entry → Bool) (N a : ℕ) (es : List Entry) : Type 0 where
  pub own : Each (λ e. q e ≡ true → e.at ≡ a) es
  pub finished : Each (λ e. q e ≡ true → Finished e) es
  pub only : (i : ℕ) → i < N → Aside q i es → i ≡ a + 2 → ⊥

-- none of the n addresses from a on is k
off_by : (k a n : ℕ) → ((i : ℕ) → a ≤ i → i < a + n → i ≡ k → ⊥) → Outside k a n
off_by k a n f = go (ltb k a) refl (ltb k (a + n)) refl where
  go : (t : Bool) → ltb k a ≡ t → (u : Bool) → ltb k (a + n) ≡ u → Outside k a n
  go true e u d = inl (ltb-true k a e)
  go false e true d = absurd (f k (ltb-false k a e) (ltb-true k (a + n) d) refl)
  go false e false d = inr (ltb-false k (a + n) d)

-- a row's first byte is no status byte of it
row_start : {im : Image} {lim : ℕ} {o : Bool} {h : ℕ} {es : List Entry} {p : Bool} {b : ℕ} (q : Entry → Bool) (i : ℕ) → i ≤ h
    → Row im lim o h es p b → Aside q i es
row_start q i l row_none = tt
row_start q i l (row_more e f w r) = (λ t z. omega arith, row_start q i (omega arith) r)

-- the status bytes of what is taken
zeros : (left : Image) (q : Entry → Bool) (N a : ℕ) (es : List Entry) → (a + 2 < N → get_or left (a + 2) 0 ≡ 0)
    → Each (λ e. q e ≡ true → e.at ≡ a) es → Each (λ e. e.at + 2 < N) es → Each (λ e. q e ≡ true → get_or left (e.at + 2) 0 ≡ 0) es
zeros left q N a [] z o i = tt
zeros left q N a (e ∷ es) z o i =
    (λ t. ap (λ (k : ℕ). get_or left (k + 2) 0) (o.0 t) ∙ z (omega (arith, o.0 t, i.0)), zeros left q N a es z o.1 i.1)

-- ---- the records

-- what is read then: x has the new record's name and content
abbrev pub put_reading : (Entry → Bool) → Place → Entry → List Entry → Reading
put_reading q p x es =
    record { place = copied_place p (size x); entries = map (drop_if q) es ++ (copy_of p x ∷ []); ending = Ending.Tail }

-- the new record is the last of them, and finished
pub put_closed : (p : Place) (x : Entry) (es : List Entry) → last_open (es ++ (copy_of p x ∷ [])) ≡ false
put_closed p x [] = committed_finished
put_closed p x (e ∷ es) = closed e es where
  closed : (e : Entry) (es : List Entry) → last_pending e (es ++ (copy_of p x ∷ [])) ≡ false
  closed e [] = committed_finished
  closed e (f ∷ es) = closed f es

-- the chain is not at N if the first sector is free
pub edge_of : (im : Image) (T : ℕ) {f : ℕ} {x : Next} → T ≤ length im → Stop im (length im) false T x → EndsHere f x → T ≡ length im
    → f ≡ 0
edge_of im T l s here_clear e = absurd (omega (arith, (clear_free im T (length im) l (omega arith) s).0))
edge_of im T l s (here_over q) e = q

-- ---- the three ways

-- what is read of it, that the free run is FF, and the head's first byte as it was
pub record Put (im left : Image) (h : ℕ) (s : Reading) : Type 0 where
  pub reads : Reads left h s
  pub free : FreeRun left s.place
  pub low : get_or left h 0 ≡ get_or im h 0

-- x: name and content of the new record, address and status of the replaced one
module _ (im : Image) (g : Good (length im)) {h : ℕ} (x : Entry) (l : h < length im) (even : h % 8 ≡ 0)
    (known : (length (name_of x) < 64) × Nameable (name_of x)) (q : Entry → Bool) where
  abbrev N : ℕ
  N = length im

  abbrev a : ℕ
  a = x.at

  -- before the turn
  module _ {T : ℕ} {y : Entry} {es : List Entry} (row : Row im N false h (y ∷ es) false T) (below : Free im 0 (floor h))
      (free : Free im T N)
      (o : Replaced q N a (y ∷ es)) where
    abbrev p : Place
    p = place_of N h T false

    abbrev left : Image
    left = new im p x

    len : length left ≡ N
    len = new_length im p x

    ends : (h + 16 ≤ T) × (T ≤ N)
    ends = let e = row_end (omega arith) row in (omega (arith, e.0), e.1)

    -- outside of the row no byte is the taken status
    beyond : (i : ℕ) → i < N → (i < h) ⊎ (T ≤ i) → i ≡ a + 2 → ⊥
    beyond i l d = o.only i l (row_aside q i d row)

    -- nor is the head's first byte
    head_off : h ≡ a + 2 → ⊥
    head_off = o.only h l (row_start q h (omega arith) row)

    -- the row, where its bytes but the taken status are the same
    old_row : ((i : ℕ) → h ≤ i → i < T → (i ≡ a + 2 → ⊥) → get_or left i 0 ≡ get_or im i 0)
        → Row left (length left) false h (map (drop_if q) (y ∷ es)) false T
    old_row same =
        row_dropped q (omega arith) (omega arith) (omega (arith, ends.1, len))
        (λ i u v n. same i u v (o.only i (omega (arith, ends.1)) n))
        (zeros left q N a (y ∷ es) (new_status im p x) o.own (row_inside N (omega arith) row)) o.finished row

    -- it goes to the tail
    module _ (e : fits_at_tail p (size x) ≡ true) where
      at_T : address p (size x) ≡ T
      at_T = tail_address p (size x) e

      room : T + size x ≤ N
      room = tail_room p (size x) e

      unmarked : {A : Type 0} → with_marker p (size x) ≡ true → A
      unmarked z = absurd (not_both (with_marker p (size x)) (tail_unmarked p (size x) e) z)

      same : (i : ℕ) → (i < T) ⊎ (T + size x ≤ i) → (i ≡ a + 2 → ⊥) → get_or left i 0 ≡ get_or im i 0
      same i u n =
          new_same im p x i n
          (⊎_elim (λ (z : i < T). inl (omega (arith, at_T))) (λ (z : T + size x ≤ i). inr (omega (arith, at_T))) u) unmarked

      tail_row : Row left (length left) false h (map (drop_if q) (y ∷ es) ++ (copy_of p x ∷ [])) false (T + size x)
      tail_row =
          row_append (old_row (λ i u v n. same i (inl v) n))
          (subst (λ (t : Bool). Row left (length left) false T (copy_of p x ∷ []) t (T + size x)) committed_finished
          (row_more (copy_of p x) at_T
          (new_stands im p x (omega (arith, at_T, room))
          (off_by (a + 2) (address p (size x)) (size x)
          (λ i u v. beyond i (omega (arith, at_T, room)) (inr (omega (arith, at_T))))) unmarked
          (length left) (omega (arith, at_T, room, len)) (omega (arith, len)) known (omega (arith, room, g.most))
          (free (address p (size x) + 3) (omega (arith, at_T)) (omega (arith, at_T, room))))
          row_none))

      low : Free left 0 (floor h)
      low i u v = same i (inl (omega (arith, ends.0))) (beyond i (omega arith) (inl (omega arith))) ∙ below i u v

      high : Free left (T + size x) (length left)
      high i u v = same i (inr u) (beyond i (omega (arith, len)) (inr (omega arith))) ∙ free i (omega arith) (omega (arith, len))

      place : copied_place p (size x) ≡ come_round (place_of (length left) h (T + size x) false)
      unfolding copied_place
      place = ap come_round (tail_after p (size x) e ∙ ap (λ (n : ℕ). place_of n h (T + size x) false) (sym len))

      pub put_tail : Put im left h (put_reading q p x (y ∷ es))
      put_tail =
          record {
            reads =
                subst (λ (z : Place). Reads left h
                (record { place = z; entries = map (drop_if q) (y ∷ es) ++ (copy_of p x ∷ []); ending = Ending.Tail }))
                (sym place) (straight_reads (subst Good (sym len) g) (omega (arith, len)) even tail_row low high);
            free = subst (FreeRun left) (sym place) (run_round (place_of (length left) h (T + size x) false) refl high low);
            low = same h (inl (omega (arith, ends.0))) head_off;
          }

    -- it goes to 0, behind a marker
    module _ (e : fits_at_tail p (size x) ≡ false) (k : fits p (size x) ≡ true) (edge : T ≡ N → floor h ≡ 0) where
      at_0 : address p (size x) ≡ 0
      at_0 = zero_address p (size x) e k

      small : size x ≤ floor h
      small = (zero_turned p (size x) e k _ refl).1

      before : T < N
      before = go (ltb T N) refl where
        go : (t : Bool) → ltb T N ≡ t → T < N
        go true z = ltb-true T N z
        go false z = absurd (omega (arith, ltb-false T N z, ends.1, small, edge (omega (arith, ltb-false T N z, ends.1))))

      words : T + 8 ≤ N
      words = omega (arith, before, row_words even row, g.sectors)

      low_row : Row left (floor h) false 0 (copy_of p x ∷ []) false (0 + size x)
      low_row =
          subst (λ (t : Bool). Row left (floor h) false 0 (copy_of p x ∷ []) t (0 + size x)) committed_finished
          (row_more (copy_of p x) at_0
          (new_stands im p x (omega (arith, at_0, small))
          (off_by (a + 2) (address p (size x)) (size x) (λ i u v. beyond i (omega (arith, at_0, small)) (inl (omega (arith, at_0, small)))))
          (λ z. inl (omega (arith, at_0, small, ends.0)))
          (floor h) (omega (arith, at_0, small)) (omega arith) known (omega (arith, small, g.most))
          (below (address p (size x) + 3) (omega arith) (omega (arith, at_0, small))))
          row_none)

      turn_0 : Stop left (length left) false T Next.Wrap
      turn_0 =
          new_wrap im p x (zero_marked p (size x) e k before) words
          (λ i u. (beyond (T + i) (omega (arith, words)) (inr (omega arith)), inr (omega (arith, at_0, small, ends.0))))
          (free (T + 3) (omega arith) (omega (arith, words)))

      rest : Free left (0 + size x) (floor h)
      rest i u v =
          new_same im p x i (beyond i (omega arith) (inl (omega arith))) (inr (omega (arith, at_0))) (λ z. inl (omega (arith, ends.0)))
          ∙ below i (omega arith) v

      place_0 : copied_place p (size x) ≡ place_of (length left) h (0 + size x) true
      unfolding copied_place
      place_0 =
          ap come_round (zero_after p (size x) e k) ∙ round_turned (place_of N h (0 + size x) true) refl
          ∙ ap (λ (n : ℕ). place_of n h (0 + size x) true) (sym len)

      pub put_zero : Put im left h (put_reading q p x (y ∷ es))
      put_zero =
          record {
            reads =
                subst (λ (z : Place). Reads left h
                (record { place = z; entries = map (drop_if q) (y ∷ es) ++ (copy_of p x ∷ []); ending = Ending.Tail }))
                (sym place_0)
                (turned_reads (subst Good (sym len) g) (omega (arith, len)) even
                (old_row (λ i u v n. new_same im p x i n (inr (omega (arith, at_0, small))) (λ z. inl v)))
                turn_0 turn_wrap (λ z. omega (arith, small)) low_row rest);
            free = subst (FreeRun left) (sym place_0) (run_turned (place_of (length left) h (0 + size x) true) refl rest);
            low = new_same im p x h head_off (inr (omega (arith, at_0, small))) (λ z. inl (omega (arith, ends.0)));
          }

  -- after the turn
  module _ {b T : ℕ} {y : Entry} {us vs : List Entry} {z : Next} (row : Row im N false h (y ∷ us) false b) (s : Stop im N false b z)
      (t : Turns z)
      (n : floor h ≡ 0 → ⊥) (rows : Row im (floor h) false 0 vs false T) (free : Free im T (floor h))
      (o : Replaced q N a ((y ∷ us) ++ vs)) where
    abbrev d : Place
    d = place_of N h T true

    abbrev then : Image
    then = new im d x

    abbrev all : List Entry
    all = (y ∷ us) ++ vs

    long : length then ≡ N
    long = new_length im d x

    stops : (h + 16 ≤ b) × (b ≤ N)
    stops = let e = row_end (omega arith) row in (omega (arith, e.0), e.1)

    fin : T ≤ floor h
    fin = (row_end (omega arith) rows).1

    abbrev Aside_at : ℕ → Entry → Type 0
    Aside_at i e = q e ≡ true → i ≡ e.at + 2 → ⊥

    -- a byte that is the taken status of neither row
    neither : (i : ℕ) → i < N → Aside q i (y ∷ us) → Aside q i vs → i ≡ a + 2 → ⊥
    neither i l u v = o.only i l (each_append (Aside_at i) (y ∷ us) vs u v)

    module _ (k : fits d (size x) ≡ true) where
      -- it must fit at the tail
      e : fits_at_tail d (size x) ≡ true
      e = go _ refl where
        go : (t : Bool) → fits_at_tail d (size x) ≡ t → fits_at_tail d (size x) ≡ true
        go true r = r
        go false r = absurd (false≢true (sym (zero_turned d (size x) r k _ refl).0))

      where_T : address d (size x) ≡ T
      where_T = tail_address d (size x) e

      gap : T + size x ≤ floor h
      gap = tail_room d (size x) e

      plain : {A : Type 0} → with_marker d (size x) ≡ true → A
      plain r = absurd (not_both (with_marker d (size x)) (tail_unmarked d (size x) e) r)

      still : (i : ℕ) → (i < T) ⊎ (T + size x ≤ i) → (i ≡ a + 2 → ⊥) → get_or then i 0 ≡ get_or im i 0
      still i u m =
          new_same im d x i m
          (⊎_elim (λ (z : i < T). inl (omega (arith, where_T))) (λ (z : T + size x ≤ i). inr (omega (arith, where_T))) u) plain

      -- between the rows and behind them
      clear : (i : ℕ) → i < N → (i < h) ⊎ (b ≤ i) → T ≤ i → i ≡ a + 2 → ⊥
      clear i l u v = neither i l (row_aside q i u row) (row_aside q i (inr v) rows)

      high_row : Row then (length then) false h (map (drop_if q) (y ∷ us)) false b
      high_row =
          row_dropped q (omega arith) (omega arith) (omega (arith, stops.1, long))
          (λ i u v m.
          still i (inr (omega (arith, gap))) (neither i (omega (arith, stops.1)) m (row_aside q i (inr (omega (arith, fin))) rows)))
          (zeros then q N a (y ∷ us) (new_status im d x) (each_left (λ e. q e ≡ true → e.at ≡ a) (y ∷ us) vs o.own)
          (row_inside N (omega arith) row))
          (each_left (λ e. q e ≡ true → Finished e) (y ∷ us) vs o.finished) row

      low_rows : Row then (floor h) false 0 (map (drop_if q) vs) false T
      low_rows =
          row_dropped q (omega arith) (omega (arith, long)) fin
          (λ i u v m. still i (inl v) (neither i (omega (arith, fin)) (row_aside q i (inl (omega (arith, fin))) row) m))
          (zeros then q N a vs (new_status im d x) (each_right (λ e. q e ≡ true → e.at ≡ a) (y ∷ us) vs o.own)
          (row_inside N (omega arith) rows))
          (each_right (λ e. q e ≡ true → Finished e) (y ∷ us) vs o.finished) rows

      grown : Row then (floor h) false 0 (map (drop_if q) vs ++ (copy_of d x ∷ [])) false (T + size x)
      grown =
          row_append low_rows
          (subst (λ (t : Bool). Row then (floor h) false T (copy_of d x ∷ []) t (T + size x)) committed_finished
          (row_more (copy_of d x) where_T
          (new_stands im d x (omega (arith, where_T, gap))
          (off_by (a + 2) (address d (size x)) (size x)
          (λ i u v. clear i (omega (arith, where_T, gap)) (inl (omega (arith, where_T, gap))) (omega (arith, where_T)))) plain (floor h)
          (omega (arith, where_T, gap)) (omega arith) known (omega (arith, gap, g.most))
          (free (address d (size x) + 3) (omega (arith, where_T)) (omega (arith, where_T, gap))))
          row_none))

      rest_T : Free then (T + size x) (floor h)
      rest_T i u v = still i (inr u) (clear i (omega arith) (inl (omega arith)) (omega arith)) ∙ free i (omega arith) v

      place_T : copied_place d (size x) ≡ place_of (length then) h (T + size x) true
      unfolding copied_place
      place_T =
          ap come_round (tail_after d (size x) e) ∙ round_turned (place_of N h (T + size x) true) refl
          ∙ ap (λ (k : ℕ). place_of k h (T + size x) true) (sym long)

      pub put_round : Put im then h (put_reading q d x all)
      put_round =
          record {
            reads =
                subst (λ (r : Reading). Reads then h r)
                (ap₂ (λ (r : Place) (es : List Entry). record { place = r; entries = es; ending = Ending.Tail }) (sym place_T)
                (sym (append_assoc (map (drop_if q) (y ∷ us)) (map (drop_if q) vs) (copy_of d x ∷ []))
                ∙ ap (λ (es : List Entry). es ++ (copy_of d x ∷ [])) (sym (map-append (drop_if q) (y ∷ us) vs))))
                (turned_reads (subst Good (sym long) g) (omega (arith, long)) even high_row
                (stop_last im then false b long stops.1
                (λ i u v. still i (inr (omega (arith, gap, stops.0))) (clear i v (inr u) (omega (arith, fin, stops.0)))) s)
                t n grown rest_T);
            free = subst (FreeRun then) (sym place_T) (run_turned (place_of (length then) h (T + size x) true) refl rest_T);
            low =
                still h (inr (omega (arith, gap)))
                (neither h l (row_start q h (omega arith) row) (row_aside q h (inr (omega (arith, fin))) rows));
          }
