-- A planned sweep, on every image of bytes: each of its steps is sound.
use Prim.Native.Nat.{ℕ, zero, suc, ◌+◌, ◌≤◌, ◌<◌, min}
use Rattle.std.proofs.Common.{arith, ap, ◌∙◌, get_or-set_same, eqb-true}
use Rattle.std.specs.Prelude.{◌≡◌, Bool, ◌&&◌, ◌||◌, not, cond, get_or, eqb}
use Rattle.std.proofs.Math.Path.{refl, sym, subst}
use Rattle.std.proofs.Math.Bool.{true, false}
use Rattle.std.proofs.lemmas.Bool.{false≢true}
use Rattle.std.proofs.Math.Option.{some}
use mathlib.Core.List.{List, [], ◌∷◌, ◌++◌}
use Rattle.std.proofs.Math.ListN.{length, set, length-set}
use Rattle.std.specs.Int.Bits.{bit_and}
use Rattle.spec.specs.declared.Kind.{Kind}
use Rattle.spec.specs.declared.Next.{Next}
use Rattle.spec.specs.declared.Place.{Place}
use Rattle.spec.specs.Step.{Image, Step, run}
use Rattle.spec.specs.Basics.{Answer, refuse, give, onward, part, any, concat, Each}
use Rattle.spec.specs.Bytes.{is_record, is_start, is_clean, is_wrap, is_high, is_erased, is_reserved, is_unfinished, is_spare, is_wrapped}
use Rattle.spec.specs.Record.{Entry, name_of, content_of, size, data_at}
use Rattle.spec.specs.Next.{kind, is_torn_marker}
use Rattle.spec.specs.Chain.{Reading}
use Rattle.spec.specs.Files.{live, superseded}
use Rattle.spec.specs.Reading.{marked, marks_ok, head_clean}
use Rattle.spec.specs.Place.{fits}
use Rattle.spec.specs.Demand.{StepsSound}
use Rattle.spec.specs.Move.{Work, copy_steps, close_steps}
use Rattle.spec.specs.Sweep.{no_room, stuck, moves}
use Rattle.spec.specs.Door.{admitted, settled_reading}
use Rattle.spec.specs.Answers.{sweep_of, sweep_plan}
use Rattle.spec.specs.History.{steps_of}
use Rattle.laws.specs.Tests.{not_true, and_left, and_right, or_left, or_right}
use Rattle.laws.specs.Lists.{each_append}
use Rattle.laws.specs.Length.{Good, good}
use Rattle.laws.specs.Door.{settled_gives, admitted_gives}
use Rattle.laws.specs.Settled.{second_marked, last_open, wrap_torn, unmarked, calm, settled_is}
use Rattle.laws.specs.Sweep.{room_on, room_live, copy_live, copy_dead, moves_stuck, moves_next}
use Rattle.planning.specs.Planned.{copy_of, copied, after_copy, hand_steps, handed, move_steps, moved_reading}
use Rattle.planning.specs.Kinds.{tag_of, kind_tag}
use Rattle.planning.specs.Row.{kind_at}
use Rattle.planning.specs.Spots.{stands_kind}
use Rattle.planning.specs.First.{head_recordish, reads_head, one_of, pair_of}
use Rattle.planning.specs.Closing.{PairAt, pair_at, second_in}
use Rattle.planning.specs.Known.{Known, settled_known}
use Rattle.planning.specs.Rested.{Rested, Finished, reads_finished, settled_rested}
use Rattle.planning.specs.Moves.{First, first, after_a, Move, moved}
use Rattle.laws.specs.Steps.{sound_append}
use Rattle.replay.specs.Runs.{BytesIn}
use Rattle.replay.specs.Record.{known_sound}
use Rattle.replay.specs.Placing.{spot_of, put_sound}
use Rattle.replay.specs.Mounting.{pair_close}
use Rattle.replay.specs.Mounts.{run_bytes_in}
use Rattle.replay.specs.LastThing.{Standing, reads_standing}

-- ---- every record but the first has the low byte of a record: A5, A4 or A1

abbrev Unmarked : Entry → Type 0
Unmarked e = is_record e.it.low ≡ true

abbrev UnmarkedBehind : List Entry → Type 0
UnmarkedBehind [] = Unit {0}
UnmarkedBehind (x ∷ es) = Each Unmarked es

-- such a byte may become A0
record_clears : (b : ℕ) → is_record b ≡ true → bit_and 0xA0 b ≡ 0xA0
unfolding is_record
record_clears b h = go (eqb b 0xA5) (eqb b 0xA4) (eqb b 0xA1) refl refl refl where
  go : (s t u : Bool) → eqb b 0xA5 ≡ s → eqb b 0xA4 ≡ t → eqb b 0xA1 ≡ u → bit_and 0xA0 b ≡ 0xA0
  go true t u p q r = ap (bit_and 0xA0) (eqb-true b 0xA5 p)
  go false true u p q r = ap (bit_and 0xA0) (eqb-true b 0xA4 q)
  go false false true p q r = ap (bit_and 0xA0) (eqb-true b 0xA1 r)
  go false false false p q r = absurd (false≢true (rw (p, q, r) at h))

-- a record that is finished has one of three kinds of low byte
some_low : (b c st m : ℕ) → is_erased st ≡ false → tag_of (kind b c st m) ≡ 0 → (is_record b || is_start b || is_clean b) ≡ true
unfolding kind
some_low b c st m e h = go _ _ _ _ _ refl refl refl refl refl where
  none : {A : Type 0} → 1 ≤ tag_of (kind b c st m) → A
  none k = absurd (omega arith)

  wrapped : (t : Bool) → 1 ≤ tag_of (cond t Kind.Marker Kind.Bad)
  wrapped true = omega arith
  wrapped false = omega arith

  go : (s t u v w : Bool) → is_spare m ≡ s → is_torn_marker b c st ≡ t → is_high c ≡ u → is_wrap b ≡ v
      → (is_record b || is_start b || is_clean b) ≡ w → (is_record b || is_start b || is_clean b) ≡ true
  go false t u v w p q r x y = none (rw (kind, p) (omega arith))
  go true true u v w p q r x y = none (rw (kind, p, q) (omega arith))
  go true false false v w p q r x y = none (rw (kind, p, q, e, r) (omega arith))
  go true false true true w p q r x y = none (rw (kind, p, q, e, r, x) (wrapped (is_wrapped st)))
  go true false true false false p q r x y = none (rw (kind, p, q, e, r, x, y) (omega arith))
  go true false true false true p q r x y = y

erased_not : (st : ℕ) → is_unfinished st ≡ false → is_erased st ≡ false
unfolding is_unfinished
erased_not st h = or_left (is_erased st) (is_reserved st) h

unmarked_of : (im : Image) (e : Entry) → Standing im e → Finished e → marked e ≡ false → Unmarked e
unmarked_of im e s f m =
    let w = s.stands in
    let low : (is_record e.it.low || is_start e.it.low || is_clean e.it.low) ≡ true =
    subst (λ (b : ℕ). (is_record b || is_start b || is_clean b) ≡ true) w.low
    (some_low (get_or im e.at 0) (get_or im (e.at + 1) 0) (get_or im (e.at + 2) 0) (get_or im (e.at + 3) 0)
    (ap is_erased w.status ∙ erased_not e.it.status f)
    (kind_tag (part e.at s.lim im) (kind_at im e.at) (Next.Record (length (name_of e)) (length (content_of e)))
    (stands_kind s.short w) (λ q. omega arith))) in
    go (is_record e.it.low) refl low where
      go : (t : Bool) → is_record e.it.low ≡ t → (is_record e.it.low || is_start e.it.low || is_clean e.it.low) ≡ true
          → Unmarked e
      go true p q = p
      go false p q =
          absurd (false≢true (sym (rw (
            p,
            or_left (is_start e.it.low) (is_clean e.it.low) m,
            or_right (is_start e.it.low) (is_clean e.it.low) m,
          )) ∙ q))

unmarked_all : (im : Image) (es : List Entry) → Each (Standing im) es → Each Finished es → Each (λ e. marked e ≡ false) es
    → Each Unmarked es
unmarked_all im [] s f m = tt
unmarked_all im (e ∷ es) s f m = (unmarked_of im e s.0 f.0 m.0, unmarked_all im es s.1 f.1 m.1)

unmarked_behind : (im : Image) (es : List Entry) → Each (Standing im) es → Each Finished es → marks_ok es ≡ true → second_marked es ≡ false
    → UnmarkedBehind es
unmarked_behind im [] s f m n = tt
unmarked_behind im (x ∷ es) s f m n = unmarked_all im es s.1 f.1 (unmarked x es n m)

calm_second : (r : Reading) → calm r ≡ true → second_marked r.entries ≡ false
unfolding calm
calm_second r h =
    let es : List Entry = r.entries in
    let rest : Bool = (not (last_open es) && not (wrap_torn r.ending)) && not (any (superseded es) es) in
    not_true (second_marked es) (and_left (not (second_marked es)) rest
    (and_right (not (head_clean es)) (not (second_marked es) && rest) h))

settled_unmarked : (im : Image) (r : Reading) → settled_reading im ≡ give r → UnmarkedBehind r.entries
settled_unmarked im r e =
    let k = settled_known im r e in
    let a : Known im r = k.0 in
    unmarked_behind im r.entries (reads_standing (omega (arith, a.inside)) a.reads) (reads_finished a.reads k.1.closed)
    a.marks
    (calm_second r (sym (settled_is im r) ∙ (settled_gives im r e).1))

-- ---- one move

-- the copy is a record too
unmarked_snoc : (es : List Entry) (p : Place) (x : Entry) → Each Unmarked es → Each Unmarked (es ++ (copy_of p x ∷ []))
unfolding is_record
unmarked_snoc es p x h = each_append Unmarked es (copy_of p x ∷ []) h (refl, tt)

copied_unmarked : (p : Place) (es : List Entry) → UnmarkedBehind es → UnmarkedBehind (copied p es)
unfolding copied
copied_unmarked p [] h = tt
copied_unmarked p (x ∷ es) h = go (live (x ∷ es) x) refl where
  go : (t : Bool) → live (x ∷ es) x ≡ t → UnmarkedBehind (copied p (x ∷ es))
  go true e = rw (copied, e) (unmarked_snoc es p x h)
  go false e = rw (copied, e) h

handed_unmarked : (p : Place) (es : List Entry) → UnmarkedBehind es → UnmarkedBehind (handed p es).entries
unfolding handed
handed_unmarked p [] h = tt
handed_unmarked p (x ∷ []) h = tt
handed_unmarked p (x ∷ (y ∷ es)) h = h.1

-- the bytes of a record are bytes
each_byte : (l : List ℕ) → ((i : ℕ) → i < length l → get_or l i 0 < 256) → Each (λ b. b < 256) l
each_byte [] h = tt
each_byte (b ∷ l) h = (h 0 (omega arith), each_byte l (λ i m. h (suc i) (omega arith)))

module _ (im : Image) (bs : BytesIn im) (e : Entry) (s : Standing im e) where
  name_bytes : Each (λ b. b < 256) (name_of e)
  name_bytes = each_byte (name_of e) (λ i l. subst (λ (n : ℕ). n < 256) (s.stands.name i l) (bs (e.at + (8 + i))))

  content_bytes : Each (λ b. b < 256) (content_of e)
  content_bytes = each_byte (content_of e) (λ i l. subst (λ (n : ℕ). n < 256) (s.stands.content i l) (bs (data_at e + i)))

module _ (im : Image) (g : Good (length im)) (r : Reading) (w : Rested im r) (n : stuck r ≡ false) (bs : BytesIn im)
    (pl : UnmarkedBehind r.entries) where
  all_stand : Each (Standing im) r.entries
  all_stand = reads_standing (omega (arith, w.inside)) w.reads

  -- (a)
  copy_sound : (es : List Entry) → r.entries ≡ es → StepsSound im (copy_steps r r.entries)
  unfolding copy_steps
  copy_sound [] q = subst (λ (l : List Entry). StepsSound im (copy_steps r l)) (sym q) tt
  copy_sound (x ∷ es) q = go (live (x ∷ es) x) refl where
    room : live (x ∷ es) x ≡ true → fits r.place (size x) ≡ true
    room l = by _ refl where
      by : (t : Bool) → fits r.place (size x) ≡ t → fits r.place (size x) ≡ true
      by true e = e
      by false e = absurd (false≢true (sym (sym (room_live r x es false l e) ∙ sym (ap (no_room r) q) ∙ room_on r n)))

    go : (t : Bool) → live (x ∷ es) x ≡ t → StepsSound im (copy_steps r r.entries)
    go true l =
        let s : Standing im x = (subst (Each (Standing im)) q all_stand).0 in
        subst (StepsSound im) (sym (copy_live r x es q l))
        (put_sound im r.place (some x) (name_of x) (content_of x) (omega (arith, s.short, s.stands.fits), s.stands.status)
        (spot_of im g w (size x) (room l)) (name_bytes im bs x s) (content_bytes im bs x s))
    go false l = subst (StepsSound im) (sym (copy_dead r x es q l)) tt

  abbrev copying : List Step
  copying = copy_steps r r.entries

  abbrev mid : Image
  mid = run im copying

  a : First im r
  a = first im g r w n

  -- (b) to (f)
  hand_sound : (es : List Entry) → copied r.place r.entries ≡ es → StepsSound mid (hand_steps r.place.length es)
  unfolding hand_steps
  hand_sound [] q = tt
  hand_sound (x ∷ []) q = tt
  hand_sound (x ∷ (y ∷ es)) q =
      let v : Rested mid (after_a r) = a.rested in
      let g_1 : Good (length mid) = subst Good (sym a.len) g in
      let h : ℕ = (after_a r).place.head in
      let spot : PairAt mid h (after_a r) x y =
      pair_at (omega (arith, v.inside))
      (pair_of (one_of (head_recordish mid h (omega (arith, v.inside, v.even, g_1.sectors)) v.low) v.reads q)) in
      let in-y = second_in g_1 spot in
      let low : Unmarked y = (subst UnmarkedBehind q (copied_unmarked r.place r.entries pl)).0 in
      let left : Image = set mid y.at 0xA0 in
      let len : length left ≡ length mid = length-set mid y.at 0xA0 in
      let N : length mid ≡ r.place.length = sym (reads_head v.reads).1 ∙ a.whole in (
        known_sound mid y.at y.it.low 0xA0 (omega (arith, in-y)) spot.stands.low (record_clears y.it.low low),
        subst (λ (k : ℕ). StepsSound left (close_steps k x y 0xA0)) N
            (pair_close g_1 spot left len 0xA0 (get_or-set_same mid y.at 0xA0 0 (omega (arith, in-y)))),
      )

  move_sound : StepsSound im (move_steps r)
  move_sound =
      sound_append im copying (hand_steps r.place.length (copied r.place r.entries)) (copy_sound r.entries refl)
      (hand_sound (copied r.place r.entries) refl)

-- ---- all moves

moves_sound : (k : ℕ) (im : Image) (r : Reading) → Good (length im) → Rested im r → BytesIn im → UnmarkedBehind r.entries
    → StepsSound im (concat (moves k im r))
unfolding moves
moves_sound zero im r g w bs pl = tt
moves_sound (suc k) im r g w bs pl =
    go (stuck r) refl (λ (i : Image) (s : Reading). moves_sound k i s) where
      go : (t : Bool) → stuck r ≡ t
          → ((i : Image) (s : Reading) → Good (length i) → Rested i s → BytesIn i → UnmarkedBehind s.entries
          → StepsSound i (concat (moves k i s)))
          → StepsSound im (concat (moves (suc k) im r))
      go true e ih = subst (λ (l : List (List Step)). StepsSound im (concat l)) (sym (moves_stuck im r (suc k) e)) tt
      go false e ih =
          let m : Move im r = moved im g r w e in
          let s : StepsSound im (move_steps r) = move_sound im g r w e bs pl in
          let left : Image = run im (move_steps r) in
          subst (λ (l : List (List Step)). StepsSound im (concat l))
          (sym (moves_next im r k e ∙ ap (λ (v : Work). v.steps ∷ moves k v.image v.reading) m.is))
          (sound_append im (move_steps r) (concat (moves k left (moved_reading r))) s
          (ih left (moved_reading r) m.good m.rested (run_bytes_in im (move_steps r) s bs)
          (handed_unmarked (after_copy r.place r.entries) (copied r.place r.entries)
          (copied_unmarked r.place r.entries pl))))

pub sweep_plan_sound : (im : Image) → BytesIn im → StepsSound im (steps_of (sweep_plan im))
unfolding sweep_plan sweep_of
sweep_plan_sound im bs = go (admitted im) refl where
  from : (r : Reading) → admitted im ≡ give r → (t : Bool) → no_room r r.entries ≡ t → StepsSound im (steps_of (sweep_of im r))
  from r e true k = rw (sweep_of, k) tt
  from r e false k =
      let p = admitted_gives im r e in
      rw (sweep_of, k)
      (moves_sound (min 5 (length r.entries)) im r (good (length im) p.0) (settled_rested im r p.1) bs
      (settled_unmarked im r p.1))

  go : (a : Answer Reading) → admitted im ≡ a → StepsSound im (steps_of (onward (admitted im) (sweep_of im)))
  go (refuse x) q = subst (λ (b : Answer Reading). StepsSound im (steps_of (onward b (sweep_of im)))) (sym q) tt
  go (give r) q = subst (λ (b : Answer Reading). StepsSound im (steps_of (onward b (sweep_of im)))) (sym q) (from r q _ refl)
