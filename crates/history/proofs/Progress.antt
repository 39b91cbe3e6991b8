-- The promise of sweeps after a put: they get past the records of the head's sector. The theorem stands at the end.
use Rattle.std.specs.Prelude.{ℕ, zero, suc, ◌+◌, ◌-◌, ◌≤◌, min, ◌≡◌, refl, true, false, List, [], ◌∷◌, ◌++◌, length, eqb}
use Rattle.std.proofs.Common.{arith, sym, ap, ◌∙◌, subst, length-append, eq-eqb}
use Rattle.std.proofs.Math.Option.{Option, none, some}
use Rattle.spec.specs.Step.{Image, Step, run}
use Rattle.spec.specs.Basics.{Answer, give, keep, concat}
use Rattle.spec.specs.Record.{Entry, size_of, name_ok}
use Rattle.spec.specs.Chain.{Reading}
use Rattle.spec.specs.Files.{files, file_named}
use Rattle.spec.specs.Place.{fits, with_marker, address, other_name, room}
use Rattle.spec.specs.Write.{put_steps}
use Rattle.spec.specs.Sweep.{moves}
use Rattle.spec.specs.Answers.{Plan, format, carry_out, putting, sweeping, put, sweep, sweep_plan}
use Rattle.spec.specs.Numbers.{Outcome}
use Rattle.spec.specs.History.{File, Ledger, ledger, replay, steps_of, with_file, one_if_fc, three_if}
use Rattle.spec.specs.Progress.{to_pass, fifths, Uncut, Answers0, moves_made, Passes, Progress}
use Rattle.laws.specs.Tests.{not_both}
use Rattle.history.specs.Store.{alive, fc_alive, Unique}
use Rattle.history.specs.Kinds.{Bytes, Inv, Rested}
use Rattle.history.specs.OkLaws.{Old, old_none, old_some, old_file}
use Rattle.history.specs.Settled.{rested_settled}
use Rattle.history.specs.Put.{file}
use Rattle.history.specs.PutSound.{name_some}
use Rattle.history.specs.PutOld.{gone, named_by}
use Rattle.history.specs.Puts.{Commits, put_commits}
use Rattle.history.specs.Copying.{head_read}
use Rattle.history.specs.Landing.{AfterPut, new_after, replaced_after, put_length}
use Rattle.history.specs.Ahead.{Ahead}
use Rattle.history.specs.Induction.{carried_done}
use Rattle.history.specs.Formats.{done_image, refused}
use Rattle.history.proofs.Calls.{Puts, put_no, put_yes, puts_of, room_fits, sweep_is, sweep_by}
use Rattle.history.proofs.Theorem.{history_inv}
use Rattle.history.specs.Passing.{goes_on, Passed, passes}
use Rattle.history.specs.PutAhead.{live_new, live_over, put_ahead}

-- ---- sweeps

-- a sweep where j records are ahead
record On (l : Ledger) (j : ℕ) (o : Outcome) : Type 0 where
  pub answer : o.numbers.answer ≡ 0
  pub made : min j 5 ≤ o.numbers.moves
  pub left : Reading
  pub rested : Rested l o.image left
  pub ahead : Ahead (j - 5) left

ahead_count : {j : ℕ} {r : Reading} → Ahead j r → j ≤ length r.entries
ahead_count h = omega (arith, h.count, ap length h.is, length-append h.front h.rest)

sweep_on : {l : Ledger} {f : File} {im : Image} {r : Reading} (j k : ℕ) → Rested (f ∷ l) im r → Ahead (suc j) r
    → length (steps_of (sweep_plan im)) ≤ k → On (f ∷ l) (suc j) (sweep im k)
sweep_on {l} {f} {im} {r} j k q h need =
    let m : ℕ = min 5 (length r.entries) in
    let ms : List (List Step) = moves m im r in
    let plan : sweep_plan im ≡ give (sweeping im r) =
    sweep_is im (give r) q.good (rested_settled q) ∙ sweep_by im r false (goes_on q h).1 in
    let enough : length (concat ms) ≤ k = subst (λ (p : Answer Plan). length (steps_of p) ≤ k) plan need in
    let e : sweep im k ≡ record { numbers = (sweeping im r).done; image = run im (concat ms) } =
    ap (carry_out im k) plan ∙ carried_done im k (sweeping im r) enough in
    let p : Passed (f ∷ l) m (suc j) im r = passes m (suc j) q h in
    let c : suc j ≤ length r.entries = ahead_count h in
    subst (On (f ∷ l) (suc j)) (sym e)
    (record {
      answer = refl;
      made = omega (arith, p.made);
      left = p.left;
      rested = p.rested;
      ahead = subst (λ (n : ℕ). Ahead n p.left) (let z : suc j - m ≡ suc j - 5 = omega arith in z) p.ahead;
    })

sweeps : (ks : List ℕ) (j : ℕ) {l : Ledger} {f : File} {im : Image} {r : Reading} → Rested (f ∷ l) im r → Ahead j r → length ks ≡ fifths j
    → Uncut im ks → Answers0 im ks × (j ≤ moves_made im ks)
sweeps [] j q h c u = (tt, omega arith)
sweeps (k ∷ ks) zero q h c u = absurd (omega arith)
sweeps (k ∷ ks) (suc j) q h c u =
    let o = sweep_on j k q h u.0 in
    let n = sweeps ks (suc j - 5) o.rested o.ahead (omega arith) u.1 in
    ((o.answer, n.0), omega (arith, n.1, o.made))

-- ---- the theorem

new_alive : (n c : List ℕ) (a : ℕ) → name_ok n ≡ true → alive (record { at = a; it = file n c }) ≡ true
new_alive n c a nice = let e : Entry = record { at = a; it = file n c } in fc_alive e (named_by 0xFC e refl (name_some n nice))

module _ {l : Ledger} {im : Image} {r : Reading} (q : Rested l im r) (n c : List ℕ) (nice : name_ok n ≡ true) (b : Bytes c)
    (rule : room r.place n (size_of (length n) (length c)) r.entries ≡ true) where
  abbrev z : ℕ
  z = size_of (length n) (length c)

  abbrev new : Entry
  new = record { at = address r.place z; it = file n c }

  at_head : r.place.head ≡ q.h
  at_head = ap (λ (y : Reading). y.place.head) q.is

  at_length : r.place.length ≡ length im
  at_length = ap (λ (y : Reading). y.place.length) q.is

  read_so : r.entries ≡ q.es
  read_so = ap (λ (y : Reading). y.entries) q.is

  fitting : fits r.place z ≡ true
  fitting = room_fits r.place n z r.entries rule

  left_passes : {J : Image} {R : Reading} {f : File} {k : Ledger} (p : Rested (f ∷ k) J R) → Ahead (to_pass R) R → Passes J
  left_passes {R = R} p h = record { read = R; settled = rested_settled p; passes = λ ks e u. sweeps ks (to_pass R) p h e u }

  -- fs are the records that put leaves
  after_passes : (old : Option Entry) (fs : List Entry) → Old n r.entries old
      → AfterPut (run im (put_steps r.place old n c)) q.h r.place z fs
      → keep alive fs ≡ keep (other_name n) (files r.entries) ++ (new ∷ []) → Passes (run im (put_steps r.place old n c))
  after_passes old fs o led k =
      let J : Image = run im (put_steps r.place old n c) in
      let m : Commits l (with_file n c l) im (put_steps r.place old n c)
      (length n + length c + 10 + one_if_fc old + three_if (with_marker r.place z)) r.place.head =
      put_commits q old n c o nice b fitting in
      left_passes m.rested
      (put_ahead m.rested r.place n z q.h r.entries fs new led (head_read m.rested (m.head ∙ at_head)) at_head
      (at_length ∙ sym (put_length im r.place old n c)) rule refl refl k)

  unique : Unique r.entries
  unique = subst Unique (sym read_so) q.ok.unique

  put_passes : (old : Option Entry) → Old n r.entries old → Passes (run im (put_steps r.place old n c))
  put_passes old o = go o
    where
      go : {old : Option Entry} → Old n r.entries old → Passes (run im (put_steps r.place old n c))
      go (old_none a) =
          after_passes none (r.entries ++ (new ∷ [])) (old_none a)
          (subst (λ (fs : List Entry). AfterPut (run im (put_steps r.place none n c)) q.h r.place z (fs ++ (new ∷ []))) (sym read_so)
          (new_after q n c nice b fitting))
          (live_new n new (new_alive n c (address r.place z) nice) r.entries unique a)
      go (old_some xs ys e i v w) =
          after_passes (some e) (xs ++ (gone e ∷ (ys ++ (new ∷ [])))) (old_some xs ys e i v w)
          (replaced_after q n c nice b fitting xs ys e (sym read_so ∙ i) v w)
          (live_over n new (new_alive n c (address r.place z) nice) xs ys e (subst Unique i unique) v w
          ∙ ap (λ (fs : List Entry). keep (other_name n) (files fs) ++ (new ∷ [])) (sym i))

-- a put with answer 0 on an image of the invariant
pub put_gets_on : (im : Image) (l : Ledger) (n c : List ℕ) (m : ℕ) → Inv l im → Bytes c → (put im n c m).numbers.answer ≡ 0
    → Passes (put im n c m).image
put_gets_on im l n c m i b e = go (puts_of l im n c i)
  where
    go : Puts l im n c → Passes (put im n c m).image
    go (put_no r) =
        let z : r.by.number ≡ 0 =
        sym (refused im m r.by) ∙ sym (ap (λ (p : Answer Plan). (carry_out im m p).numbers.answer) r.is) ∙ e in
        absurd (not_both (eqb r.by.number 0) r.not_done (eq-eqb r.by.number 0 z))
    go (put_yes r q nice rule k) =
        let e₁ : (carry_out im m (give (putting n c im r))).numbers.answer ≡ 0 =
        sym (ap (λ (p : Answer Plan). (carry_out im m p).numbers.answer) k) ∙ e in
        subst Passes (sym (ap (λ (p : Answer Plan). (carry_out im m p).image) k ∙ done_image im m (putting n c im r) e₁))
        (put_passes q n c nice b rule (file_named n r.entries)
        (subst (λ (x : Reading). Old n x.entries (file_named n x.entries)) (sym q.is) (old_file n q.es l q.ok)))

-- THE theorem: K6's promise, as crate spec states it
pub progress : Progress
progress raw k calls n c m e b bytes a =
    put_gets_on (replay (format raw k).image calls) (ledger (format raw k).image calls []) n c m (history_inv raw k calls e b) bytes a
