-- What repairs 3 and 4 of a mount do and what mount reports, told from the first reading and its records as they stand.
use Rattle.std.specs.Prelude.{ℕ, ◌≡◌, refl, Bool, ◌&&◌, ◌||◌, List, [], ◌∷◌, ◌++◌, map, length, eqb}
use Rattle.std.proofs.Common.{arith, sym, ap₂, ◌∙◌, eqb-true, ne_eqb}
use Rattle.std.proofs.Math.Path.{ap}
use Rattle.std.proofs.Math.Bool.{true, false, not}
use Rattle.spec.specs.declared.Ending.{Ending}
use Rattle.spec.specs.Step.{Image, Step}
use Rattle.spec.specs.Basics.{empty, any, keep}
use Rattle.spec.specs.Record.{Entry, name_of}
use Rattle.spec.specs.Chain.{Reading}
use Rattle.spec.specs.Files.{same_name, named, named_as, has_named, live, superseded, files}
use Rattle.spec.specs.Reading.{marked, marks_ok}
use Rattle.spec.specs.Mount.{void_steps, last_steps, torn_wrap_steps, delete_step, drop_steps}
use Rattle.laws.specs.Tests.{and_left, and_right, and_no}
use Rattle.laws.specs.Lists.{any_no, keep_yes, keep_no}
use Rattle.planning.specs.Repairs.{steps_3}
use Rattle.planning.specs.Planned.{with_status, with_low, dead_if, voided, dropped, half_mended, mended_reading}
use Rattle.planning.specs.Kinds.{committed_finished, migrating_finished}
unfoldable pub use Rattle.planning.specs.Half.{later, behind, behind_place}
use Rattle.planning.specs.Half.{lowered, half, second_dead}
use Rattle.planning.specs.Rivals.{open_unnamed, dead_unnamed, SettledTest, named_test, any_voided, keep_voided, superseded_voided}
use Rattle.planning.specs.Rivals.{keep_like, rival_half, superseded_half, drops_planned}

-- ---- repair 3: the last record is the same, but for its low byte

last_lowered : (image : Image) (t : Bool) (es : List Entry) → last_steps image (lowered t es) ≡ last_steps image es
unfolding last_steps void_steps
last_lowered image t [] = refl
last_lowered image true (x ∷ []) = refl
last_lowered image false (x ∷ []) = refl
last_lowered image t (x ∷ (y ∷ es)) = refl

last_behind : (image : Image) (es : List Entry) → last_steps image (behind es) ≡ last_steps image es
unfolding last_steps behind
last_behind image [] = refl
last_behind image (x ∷ []) = refl
last_behind image (x ∷ (y ∷ es)) = go _ refl where
  go : (t : Bool) → marked y ≡ t → last_steps image (behind (x ∷ (y ∷ es))) ≡ last_steps image (y ∷ es)
  go true e = rw (behind, e)
  go false e = rw (behind, e)

pub last_told : (image : Image) (r : Reading) → steps_3 image (half_mended r) ≡ steps_3 image r
last_told image r =
    let h = half r in
    ap₂ (λ (ss : List Step) (e : Ending). ss ++ torn_wrap_steps e)
    (ap (last_steps image) h.entries ∙ last_lowered image h.t (behind r.entries) ∙ last_behind image r.entries) h.ending

-- ---- repair 4: the records that are superseded in the first reading, of those that repair 2 leaves

drops_lowered : (all : List Entry) (t : Bool) (es : List Entry)
    → map delete_step (keep (superseded all) (lowered t es)) ≡ map delete_step (keep (superseded all) es)
unfolding superseded named has_named
drops_lowered all t [] = refl
drops_lowered all false (x ∷ es) = refl
drops_lowered all true (x ∷ es) = go (superseded all x) refl where
  go : (u : Bool) → superseded all x ≡ u
      → map delete_step (keep (superseded all) (with_low 0x00 x ∷ es)) ≡ map delete_step (keep (superseded all) (x ∷ es))
  go true e =
      ap (map delete_step) (keep_yes (superseded all) (with_low 0x00 x) es e)
      ∙ sym (ap (map delete_step) (keep_yes (superseded all) x es e))
  go false e =
      ap (map delete_step) (keep_no (superseded all) (with_low 0x00 x) es e) ∙ sym (ap (map delete_step) (keep_no (superseded all) x es e))

pub drops_told : (r : Reading) → marks_ok r.entries ≡ true
    → drop_steps (half_mended r).entries ≡ map delete_step (keep (superseded r.entries) (behind r.entries))
drops_told r m =
    let h = half r in
    drops_planned r m
    ∙ ap (λ (es : List Entry). map delete_step (keep (superseded r.entries) es)) h.entries
    ∙ drops_lowered r.entries h.t (behind r.entries)

-- ---- the report: head and tail

pub place_told : (r : Reading) → (mended_reading r).place ≡ behind_place r.place r.entries
unfolding mended_reading
place_told r = (half r).place

-- ---- the report: as many files as the first reading has; no repair makes one, and none takes one away

-- neither FC nor F8, so not live
live_none : (all : List Entry) (e : Entry) → named 0xFC e ≡ false → named 0xF8 e ≡ false → live all e ≡ false
unfolding live
live_none all e p q = ap₂ (λ (t u : Bool). t || (u && not (has_named 0xFC all e))) p q

live_test : (all : List Entry) → SettledTest (live all)
live_test all =
    record {
      unfinished = λ e h. live_none all e (open_unnamed 0xFC e committed_finished h) (open_unnamed 0xF8 e migrating_finished h);
      dead =
          λ b e.
          live_none all (with_low b (with_status 0x00 e)) (dead_unnamed 0xFC b e (λ q. omega arith))
          (dead_unnamed 0xF8 b e (λ q. omega arith));
    }

pub live_low : (all : List Entry) (b : ℕ) (e : Entry) → live all (with_low b e) ≡ live all e
unfolding live named has_named
live_low all b e = refl

-- an F8 record is no FC record
migrating_other : (e : Entry) → named 0xF8 e ≡ true → named 0xFC e ≡ false
unfolding named
migrating_other e h =
    let s : e.it.status ≡ 0xF8 = eqb-true e.it.status 0xF8 (and_left (eqb e.it.status 0xF8) (not (empty (name_of e))) h) in
    ap (λ (t : Bool). t && not (empty (name_of e))) (ne_eqb e.it.status 0xFC (λ q. omega arith))

superseded_parts : (all : List Entry) (e : Entry) → superseded all e ≡ true → (named 0xF8 e ≡ true) × (has_named 0xFC all e ≡ true)
unfolding superseded
superseded_parts all e h = (and_left (named 0xF8 e) (has_named 0xFC all e) h, and_right (named 0xF8 e) (has_named 0xFC all e) h)

-- a superseded record is not live
superseded_dead : (all : List Entry) (e : Entry) → superseded all e ≡ true → live all e ≡ false
unfolding live
superseded_dead all e h =
    let p = superseded_parts all e h in
    ap₂ (λ (t u : Bool). t || (named 0xF8 e && not u)) (migrating_other e p.0) p.1 ∙ and_no (named 0xF8 e) false (λ z. refl)

-- a test that no superseded record passes, before repair 4 or after it

module _ (p : Entry → Bool) (all : List Entry) (before : (e : Entry) → superseded all e ≡ true → p e ≡ false)
    (after : (e : Entry) → p (with_status 0x00 e) ≡ false) where
  any_dropped : (es : List Entry) → any p (dropped all es) ≡ any p es
  any_dropped [] = refl
  any_dropped (e ∷ es) = go (superseded all e) refl (any_dropped es) where
    go : (t : Bool) → superseded all e ≡ t → any p (dropped all es) ≡ any p es → any p (dead_if t e ∷ dropped all es) ≡ any p (e ∷ es)
    go true h ih = any_no p (with_status 0x00 e) (dropped all es) (after e) ∙ ih ∙ sym (any_no p e es (before e h))
    go false h ih = ap (λ (b : Bool). elim (p e) [ true ↦ true | false ↦ b ]) ih

  keep_dropped : (es : List Entry) → keep p (dropped all es) ≡ keep p es
  keep_dropped [] = refl
  keep_dropped (e ∷ es) = go (superseded all e) refl (keep_dropped es) where
    go : (t : Bool) → superseded all e ≡ t → keep p (dropped all es) ≡ keep p es → keep p (dead_if t e ∷ dropped all es) ≡ keep p (e ∷ es)
    go true h ih = keep_no p (with_status 0x00 e) (dropped all es) (after e) ∙ ih ∙ sym (keep_no p e es (before e h))
    go false h ih = ap (λ (l : List Entry). elim (p e) [ true ↦ e ∷ l | false ↦ l ]) ih

-- repairs 1 and 2
count_lowered : (all : List Entry) (t : Bool) (es : List Entry) → length (keep (live all) (lowered t es)) ≡ length (keep (live all) es)
count_lowered all t [] = refl
count_lowered all false (x ∷ es) = refl
count_lowered all true (x ∷ es) = go (live all x) refl where
  go : (u : Bool) → live all x ≡ u → length (keep (live all) (with_low 0x00 x ∷ es)) ≡ length (keep (live all) (x ∷ es))
  go true e = ap length (keep_yes (live all) (with_low 0x00 x) es (live_low all 0x00 x ∙ e)) ∙ sym (ap length (keep_yes (live all) x es e))
  go false e = ap length (keep_no (live all) (with_low 0x00 x) es (live_low all 0x00 x ∙ e)) ∙ sym (ap length (keep_no (live all) x es e))

pub keep_behind : (es : List Entry) → marks_ok es ≡ true → keep (live es) (behind es) ≡ keep (live es) es
unfolding behind
keep_behind [] m = refl
keep_behind (x ∷ []) m = refl
keep_behind (x ∷ (y ∷ es)) m = go (marked y) refl where
  go : (t : Bool) → marked y ≡ t → keep (live (x ∷ (y ∷ es))) (behind (x ∷ (y ∷ es))) ≡ keep (live (x ∷ (y ∷ es))) (x ∷ (y ∷ es))
  go true k = rw (behind, k) (sym (keep_no (live (x ∷ (y ∷ es))) x (y ∷ es) (second_dead x y es m k)))
  go false k = rw (behind, k)

-- all four
module _ (r : Reading) (m : marks_ok r.entries ≡ true) where
  abbrev es_0 : List Entry
  es_0 = r.entries

  abbrev es_2 : List Entry
  es_2 = (half_mended r).entries

  abbrev es_3 : List Entry
  es_3 = voided es_2

  abbrev es_4 : List Entry
  es_4 = dropped es_3 es_3

  superseded_3 : (e : Entry) → superseded es_3 e ≡ superseded es_0 e
  superseded_3 e = superseded_voided es_2 e ∙ superseded_half r e m

  -- every record has an FC record of its name as before
  rivals : (f : Entry) → has_named 0xFC es_4 f ≡ has_named 0xFC es_0 f
  unfolding has_named
  rivals f =
      any_dropped (named_as 0xFC f) es_3
      (λ e h. ap (λ (t : Bool). t && same_name f e) (migrating_other e (superseded_parts es_3 e h).0))
      (λ e. (named_test f).dead e.it.low e) es_3
      ∙ any_voided (named_as 0xFC f) (named_test f) es_2 ∙ rival_half r f m

  live_4 : (f : Entry) → live es_4 f ≡ live es_0 f
  unfolding live
  live_4 f = ap (λ (t : Bool). named 0xFC f || (named 0xF8 f && not t)) (rivals f)

  -- the files are those of the records that repair 2 leaves, live as in the first reading
  pub files_left : files (mended_reading r).entries ≡ keep (live es_0) es_2
  unfolding mended_reading
  files_left =
      let dead : (e : Entry) → superseded es_3 e ≡ true → live es_0 e ≡ false = λ e s. superseded_dead es_0 e (sym (superseded_3 e) ∙ s) in
      keep_like (live es_4) (live es_0) es_4 live_4 ∙ keep_dropped (live es_0) es_3 dead (λ e. (live_test es_0).dead e.it.low e) es_3
      ∙ keep_voided (live es_0) (live_test es_0) es_2

  pub files_told : length (files (mended_reading r).entries) ≡ length (files r.entries)
  files_told =
      let h = half r in
      ap length files_left
      ∙ ap (λ (es : List Entry). length (keep (live es_0) es)) h.entries ∙ count_lowered es_0 h.t (behind es_0)
      ∙ ap length (keep_behind es_0 m)
