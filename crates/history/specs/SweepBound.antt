-- The most steps of a sweep, on every image: five moves, each of them a copy, the cleaning of a record's data and the erase of its sectors.
use Rattle.std.specs.Prelude.{ℕ, zero, suc, ◌+◌, ◌*◌, ◌/◌, ◌≤◌, min, ◌≡◌, refl, Bool, true, false, not, List, [], ◌∷◌, ◌++◌, map, length, eqb, leb}
use Rattle.std.proofs.Common.{arith, suc-mul, mul-le-mul_right, sym, ◌∙◌, subst, leb-true}
use Rattle.std.proofs.Math.Option.{some}
use Rattle.spec.specs.Step.{Image, Step, program, erase, run}
use Rattle.spec.specs.Basics.{give, checked, concat, Each, numbered}
use Rattle.spec.specs.Geometry.{floor, sectors_by}
use Rattle.spec.specs.Record.{Entry, name_of, content_of, data_at}
use Rattle.spec.specs.Chain.{Reading, reading_from}
use Rattle.spec.specs.Files.{live}
use Rattle.spec.specs.Write.{put_steps}
use Rattle.spec.specs.Move.{Work, begin, after, copy_steps, to_clean_step, hand_over, move, clean_steps, vacated_end, vacated, start_steps, forget_steps, vacate_steps, close_steps}
use Rattle.spec.specs.Sweep.{no_room, stuck, moves}
use Rattle.spec.specs.Answers.{Plan, sweeping, sweep_of, sweep_plan}
use Rattle.spec.specs.Door.{settled_reading, admitted}
use Rattle.spec.specs.Bounds.{AtMost, move_most, SweepBound, SweepKinds}
use Rattle.history.specs.RepairCounts.{clean_programs, end_few, close_most}
use Rattle.laws.specs.Tests.{either}
use Rattle.laws.specs.Steps.{Programs}
use Rattle.history.specs.StepCounts.{most_length, most_none, most_append, most_more, most_programs}
use Rattle.history.specs.Landing.{put_length}
use Rattle.laws.specs.Sweep.{moves_stuck, moves_next}
use Rattle.history.specs.Used.{used_bound, used_kinds}
use Rattle.history.specs.PutCount.{put_steps_most}
use Rattle.history.specs.Inside.{Within, Seen, seen_from, settled_seen, Inner, programs_inner, inner_append, inner_length}
use Rattle.laws.specs.Answer.{gave}
use Rattle.laws.specs.Door.{admitted_gives}

-- ---- steps (c) to (f) lie inside

sectors_inner : (N k a b : ℕ) → b ≤ N → Inner N (map erase (sectors_by k a b))
unfolding sectors_by
sectors_inner N zero a b h = tt
sectors_inner N (suc k) a b h = go (leb (a + 4096) b) refl (sectors_inner N k (a + 4096) b h)
  where
    go : (t : Bool) → leb (a + 4096) b ≡ t → Inner N (map erase (sectors_by k (a + 4096) b))
        → Inner N (map erase (elim t as (λ x. List ℕ) [ true ↦ a ∷ sectors_by k (a + 4096) b | false ↦ [] ]))
    go true e p = (omega (arith, leb-true (a + 4096) b e), p)
    go false e p = tt

start_programs : (a low : ℕ) → Programs (start_steps a low)
start_programs a low = either Programs (eqb low 0xA0) (program a 0x80 ∷ program a 0x00 ∷ []) (program a 0x00 ∷ []) tt tt

forget_programs : (x : Entry) (zs : List ℕ) → Programs (forget_steps x zs)
forget_programs x [] = tt
forget_programs x (z ∷ zs) = tt

close_inner : (N : ℕ) (x y : Entry) (low : ℕ) → y.at ≤ N → Inner N (close_steps N x y low)
unfolding close_steps
close_inner N x y low h =
    let zs : List ℕ = vacated N x y in
    let d : ℕ = length (content_of x) in
    let clean : List Step = clean_steps d (data_at x) (content_of x) in
    inner_append N clean (vacate_steps x y low zs) (programs_inner N clean (clean_programs d (data_at x) (content_of x)))
    (inner_append N (map erase zs) (start_steps y.at low ++ forget_steps x zs)
    (sectors_inner N (vacated_end N y) (floor x.at) (vacated_end N y) (end_few N y h))
    (inner_append N (start_steps y.at low) (forget_steps x zs) (programs_inner N (start_steps y.at low) (start_programs y.at low))
    (programs_inner N (forget_steps x zs) (forget_programs x zs))))

-- ---- a move

-- what a phase of steps adds, and what is read behind it
after_most : {p q e f : ℕ} (w : Work) (ss : List Step) (h : ℕ) → AtMost p e w.steps → AtMost q f ss
    → AtMost (p + q) (e + f) (after w ss h).steps
unfolding after
after_most w [] h i j = most_more i (omega arith) (omega arith)
after_most w (s ∷ ss) h i j = most_append w.steps (s ∷ ss) i j

after_seen : {N : ℕ} (w : Work) (ss : List Step) (h : ℕ) → Seen N w.image w.reading → length (run w.image ss) ≡ N
    → Seen N (after w ss h).image (after w ss h).reading
unfolding after
after_seen w [] h k e = k
after_seen {N} w (s ∷ ss) h k e =
    subst (λ (n : ℕ). Seen n (run w.image (s ∷ ss)) (reading_from (run w.image (s ∷ ss)) h)) e (seen_from (run w.image (s ∷ ss)) h)

-- so far at most so many steps were done, and all is read inside
record Moved (N p e : ℕ) (w : Work) : Type 0 where
  pub most : AtMost p e w.steps
  pub seen : Seen N w.image w.reading

-- (a): a byte for each of X's bytes at most, and six
copied : {N p e : ℕ} (w : Work) (es : List Entry) → w.reading.entries ≡ es → Moved N p e w
    → Moved N (p + (N + 6)) e (after w (copy_steps w.reading es) w.reading.place.head)
unfolding copy_steps after
copied {N} {p} {e} w [] i k = record { most = most_more k.most (omega arith) (omega arith); seen = k.seen }
copied {N} {p} {e} w (x ∷ es) i k = go (live (x ∷ es) x)
  where
    h : ℕ
    h = w.reading.place.head

    inside : Within N x
    inside = (subst (Each (Within N)) i k.seen.within).0

    copy : List Step
    copy = put_steps w.reading.place (some x) (name_of x) (content_of x)

    go : (b : Bool) → Moved N (p + (N + 6)) e (after w (elim b as (λ z. List Step) [ true ↦ copy | false ↦ [] ]) h)
    go true =
        record {
          most =
              most_more (after_most w copy h k.most (put_steps_most w.reading.place (some x) (name_of x) (content_of x)))
              (omega (arith, inside)) (omega arith);
          seen =
              after_seen w copy h k.seen
              (put_length w.image w.reading.place (some x) (name_of x) (content_of x) ∙ k.seen.same);
        }
    go false = record { most = most_more k.most (omega arith) (omega arith); seen = k.seen }

-- (b) to (f): a byte for 8 of X's data, and two; its sectors
handed : {N p e : ℕ} (w : Work) (es : List Entry) → w.reading.entries ≡ es → Moved N p e w
    → Moved N (p + (N / 8 + 2)) (e + N / 4096) (hand_over w es)
unfolding hand_over
handed w [] i k = record { most = most_more k.most (omega arith) (omega arith); seen = k.seen }
handed w (x ∷ []) i k = record { most = most_more k.most (omega arith) (omega arith); seen = k.seen }
handed {N} w (x ∷ y ∷ es) i k =
    let in-x : Within N x = (subst (Each (Within N)) i k.seen.within).0 in
    let in-y : Within N y = (subst (Each (Within N)) i k.seen.within).1.0 in
    let n : N ≡ w.reading.place.length = sym k.seen.length_read in
    let ss : List Step = to_clean_step y ∷ close_steps w.reading.place.length x y 0xA0 in
    let inner : Inner N ss = subst (λ (m : ℕ). Inner N (close_steps m x y 0xA0)) n (close_inner N x y 0xA0 (omega (arith, in-y))) in
    let c : AtMost ((length (content_of x) + 7) / 8 + 3) (N / 4096) (close_steps w.reading.place.length x y 0xA0) =
    subst (λ (m : ℕ). AtMost ((length (content_of x) + 7) / 8 + 3) (N / 4096) (close_steps m x y 0xA0)) n
    (close_most N x y 0xA0 (omega (arith, in-y))) in
    let b : AtMost 1 0 (to_clean_step y ∷ []) = most_programs (to_clean_step y ∷ []) tt (omega arith) in
    record {
      most =
          most_more (after_most w ss y.at k.most
          (most_append (to_clean_step y ∷ []) (close_steps w.reading.place.length x y 0xA0) b c))
          (omega (arith, in-x)) (omega arith);
      seen = after_seen w ss y.at k.seen (inner_length N w.image ss k.seen.same inner);
    }

moved_most : {N : ℕ} (im : Image) (r : Reading) → Seen N im r → Moved N (move_most N) (N / 4096) (move (begin im r))
unfolding move
moved_most {N} im r k =
    let w : Work = after (begin im r) (copy_steps r r.entries) r.place.head in
    let c : Moved N (0 + (N + 6)) 0 w = copied (begin im r) r.entries refl (record { most = most_none; seen = k }) in
    let m : Moved N (0 + (N + 6) + (N / 8 + 2)) (0 + N / 4096) (hand_over w w.reading.entries) =
    handed w w.reading.entries refl c in
    record { most = most_more m.most (omega arith) (omega arith); seen = m.seen }

-- ---- the moves

moves_most : {N : ℕ} (k : ℕ) (im : Image) (r : Reading) → Seen N im r
    → AtMost (k * move_most N) (k * (N / 4096)) (concat (moves k im r))
unfolding moves
moves_most zero im r s = most_more most_none (omega arith) (omega arith)
moves_most {N} (suc k) im r s = go (stuck r) refl (λ m. moves_most k (move (begin im r)).image (move (begin im r)).reading m)
  where
    go : (b : Bool) → stuck r ≡ b
        → (Seen N (move (begin im r)).image (move (begin im r)).reading
        → AtMost (k * move_most N) (k * (N / 4096)) (concat (moves k (move (begin im r)).image (move (begin im r)).reading))) →
        AtMost (suc k * move_most N) (suc k * (N / 4096)) (concat (moves (suc k) im r))
    go true e ih =
        subst (λ (ms : List (List Step)). AtMost (suc k * move_most N) (suc k * (N / 4096)) (concat ms)) (sym (moves_stuck im r (suc k) e))
        (most_more most_none (omega arith) (omega arith))
    go false e ih =
        let w : Work = move (begin im r) in
        let m : Moved N (move_most N) (N / 4096) w = moved_most im r s in
        subst (λ (ms : List (List Step)). AtMost (suc k * move_most N) (suc k * (N / 4096)) (concat ms)) (sym (moves_next im r k e))
        (most_more (most_append w.steps (concat (moves k w.image w.reading)) m.most (ih m.seen))
        (omega (arith, suc-mul k (move_most N))) (omega (arith, suc-mul k (N / 4096))))

-- there are five at most
five : (k M : ℕ) → min 5 k * M ≤ 5 * M
five k M = mul-le-mul_right M (let h : min 5 k ≤ 5 = omega arith in h)

-- ---- the call

-- a sweep that is not refused
record SweepsMost (im : Image) (p : Plan) : Type 0 where
  pub own : p.done.steps ≡ length p.steps
  pub most : AtMost (5 * move_most (length im)) (5 * (length im / 4096)) p.steps

most_by : (im : Image) (p : Plan) (r : Reading) → settled_reading im ≡ give r → sweep_of im r ≡ give p → SweepsMost im p
unfolding sweep_of
most_by im p r s e = into (no_room r r.entries) e
  where
    N : ℕ
    N = length im

    n : ℕ
    n = length r.entries

    into : (b : Bool) → checked (not b) (numbered 28) (give (sweeping im r)) ≡ give p → SweepsMost im p
    into true k = absurd (let z : ◌≡◌ {A = ℕ} 0 1 = cc in omega arith)
    into false k =
        let i : sweeping im r ≡ p = cc in
        subst (SweepsMost im) i
        (record {
          own = refl;
          most = most_more (moves_most (min 5 n) im r (settled_seen im r s)) (five n (move_most N)) (five n (N / 4096));
        })

sweep_most : (im : Image) (p : Plan) → sweep_plan im ≡ give p → SweepsMost im p
unfolding sweep_plan
sweep_most im p e =
    let g = gave (admitted im) (sweep_of im) p e in
    most_by im p g.value (admitted_gives im g.value g.from).1 g.on

-- THE theorem on sweep
pub sweep_bound : SweepBound
sweep_bound im k =
    used_bound im k (5 * (move_most (length im) + length im / 4096)) (sweep_plan im)
    (λ p e. let s : SweepsMost im p = sweep_most im p e in (s.own, omega (arith, most_length p.steps s.most)))

-- bytes and sectors apart
pub sweep_kinds : SweepKinds
sweep_kinds im m = used_kinds m (sweep_plan im) (λ p e. (sweep_most im p e).most)
