-- Repair 4: deleting a superseded record changes neither the chain nor which others are superseded.
use Rattle.std.specs.Prelude.{ℕ, ◌+◌, ◌-◌, ◌≤◌, ◌≡◌, refl, Bool, true, false, ◌&&◌, not, length, get_or, eqb}
use Rattle.std.proofs.Common.{arith, ap₂, subst, ◌∙◌, inl, ⊎_elim, get_or-drop, eqb-true, ne_eqb}
use Rattle.std.proofs.Math.Path.{sym, ap}
use mathlib.Core.List.{List, [], ◌∷◌, ◌++◌, map}
use Rattle.std.proofs.Math.ListN.{set}
use Rattle.std.proofs.Math.Seq.{take-nil, get_or-set_same}
use Rattle.spec.specs.Step.{Image, Step, program, run}
use Rattle.spec.specs.Basics.{any, keep, empty}
use Rattle.spec.specs.Bytes.{is_unfinished, is_erased, is_reserved}
use Rattle.spec.specs.Record.{Entry, name_of, size_of}
use Rattle.spec.specs.Files.{named, named_as, has_named, superseded, same_name}
use Rattle.spec.specs.Mount.{delete_step, drop_steps}
use Rattle.flash.specs.declared.Meter.{Meter}
use Rattle.flash.specs.Did.{Did, did_one}
use Rattle.chain.specs.declared.Cursor.{Cursor}
use Rattle.chain.specs.declared.Spot.{Spot}
use Rattle.chain.specs.declared.Item.{Item}
use Rattle.chain.specs.Cursor.{CursorSound, unfinished_at, advance}
use Rattle.chain.specs.Along.{Reached, reached}
use Rattle.chain.specs.Rest.{Run, entry_of, rest, rest_record}
use Rattle.chain.specs.Fold.{NotRecord, rest_done}
use Rattle.reading.specs.Read.{first_cursor}
use Rattle.flash.specs.Toward.{Toward, toward_more, toward_end}
use Rattle.recovery.specs.Trail.{Tidy, Ahead, tidy_seen, tidy_next, ahead_back, look_dropped, step_again}
use Rattle.recovery.specs.Path.{Path, here, path_snoc, rest_path, path_tidy, path_kept, Passed, rest_kept}
use Rattle.laws.specs.Tests.{and_left}

-- ---- the steps of one record, and of the others

-- of the entries xs those that are superseded among es
abbrev pub dropped : List Entry → List Entry → List Step
dropped es xs = map delete_step (keep (superseded es) xs)

abbrev pick : Bool → Entry → List Entry → List Entry
pick t e es = elim t [ true ↦ e ∷ es | false ↦ es ]

pick_first : (t : Bool) (e : Entry) (es : List Entry) → map delete_step (pick t e es) ≡ map delete_step (pick t e []) ++ map delete_step es
pick_first true e es = refl
pick_first false e es = refl

any_replace : (p : Entry → Bool) (before : List Entry) (e f : Entry) (es : List Entry) → p e ≡ p f
    → any p (before ++ (e ∷ es)) ≡ any p (before ++ (f ∷ es))
any_replace p [] e f es h = ap (λ (t : Bool). elim t [ true ↦ true | false ↦ any p es ]) h
any_replace p (x ∷ before) e f es h = ap (λ (b : Bool). elim (p x) [ true ↦ true | false ↦ b ]) (any_replace p before e f es h)

unnamed : (st : ℕ) (e : Entry) → (e.it.status ≡ st → ⊥) → named st e ≡ false
unfolding named
unnamed st e h = ap (λ (t : Bool). t && not (empty (name_of e))) (ne_eqb e.it.status st h)

-- a superseded record is F8
old_status : (t : Image) (es : List Entry) (e : Spot) → superseded es (entry_of t e) ≡ true → get_or t (e.at + 2) 0 ≡ 0xF8
unfolding superseded named
old_status t es e h =
    let f : named 0xF8 (entry_of t e) ≡ true = and_left (named 0xF8 (entry_of t e)) (has_named 0xFC es (entry_of t e)) h in
    sym (get_or-drop e.at t 2 0)
    ∙ eqb-true (entry_of t e).it.status 0xF8 (and_left (eqb (entry_of t e).it.status 0xF8) (not (empty (name_of (entry_of t e)))) f)

-- ---- what a step of the loop needs of the image u that it leaves

pub record Still (t u : Image) (start : Cursor) (before : List Entry) (e : Spot) (behind : Cursor) : Type 0 where
  pub later : (rest u behind).entries ≡ (rest t behind).entries
  pub named : (x : Entry) → has_named 0xFC (rest u start).entries x ≡ has_named 0xFC (rest t start).entries x
  pub path : Path u start (before ++ (entry_of u e ∷ [])) behind

rest_here : (image : Image) (c : Cursor) (e : Spot) (behind : Cursor) → advance image c ≡ Item.Record e behind
    → (rest image c).entries ≡ entry_of image e ∷ (rest image behind).entries
rest_here image c e behind h = ap (λ (r : Run). r.entries) (rest_record image c e behind h)

module _ (t : Image) (start c : Cursor) (before : List Entry) (e : Spot) (behind : Cursor)
    (p : Path t start before c) (tidy : Tidy start) (h : advance t c ≡ Item.Record e behind) where
  still_same : Still t t start before e behind
  still_same = record { later = refl; named = λ x. refl; path = path_snoc e p h }

  module _ (fits : e.at + size_of e.n e.d ≤ length t) (old : get_or t (e.at + 2) 0 ≡ 0xF8) where
    tidy_c : Tidy c
    tidy_c = path_tidy p tidy

    onto : Reached t c e behind
    onto = reached t c e behind h

    abbrev seen : Cursor
    seen = onto.seen

    ahead_there : Ahead seen (e.at + 2)
    ahead_there = inl (omega (arith, onto.at), omega (arith, onto.at, (tidy_seen tidy_c onto).ordered, onto.fits))

    ahead : Ahead c (e.at + 2)
    ahead = ahead_back tidy_c onto (e.at + 2) ahead_there

    -- its byte, by the address at which it was looked for
    old_there : get_or t (seen.at + 2) 0 ≡ 0xF8
    old_there = ap (λ (k : ℕ). get_or t (k + 2) 0) (sym onto.at) ∙ old

    finished : unfinished_at (set t (seen.at + 2) 0) seen.at ≡ unfinished_at t seen.at
    unfolding is_unfinished is_erased is_reserved
    finished =
        ap is_unfinished (get_or-drop seen.at (set t (seen.at + 2) 0) 2 0 ∙ get_or-set_same t (seen.at + 2) 0 0 (omega (arith, onto.at)))
        ∙ sym (ap is_unfinished (get_or-drop seen.at t 2 0 ∙ old_there))

    done_again : advance (set t (e.at + 2) 0) c ≡ Item.Record e behind
    done_again =
        let there = ap (λ (k : ℕ). k + 2) onto.at in
        step_again tidy_c onto (e.at + 2) 0 ahead_there
        (rw there (look_dropped t seen e.n e.d onto.what (omega (arith, onto.at)) old_there))
        (rw there finished)

    behind_passed : Passed behind (e.at + 2)
    behind_passed =
        rw onto.next_is record { before = inl (omega (arith, onto.at)); low = omega (arith, onto.at, (tidy_seen tidy_c onto).apart) }

    status_now : (entry_of (set t (e.at + 2) 0) e).it.status ≡ 0
    status_now = get_or-drop e.at (set t (e.at + 2) 0) 2 0 ∙ get_or-set_same t (e.at + 2) 0 0 (omega arith)

    status_was : (entry_of t e).it.status ≡ 0xF8
    status_was = get_or-drop e.at t 2 0 ∙ old

    rest_same : rest (set t (e.at + 2) 0) behind ≡ rest t behind
    rest_same = rest_kept t (e.at + 2) 0 behind (tidy_next tidy_c onto) behind_passed

    still_named : (x : Entry) → has_named 0xFC (rest (set t (e.at + 2) 0) start).entries x ≡ has_named 0xFC (rest t start).entries x
    unfolding has_named
    still_named x =
        let v : Image = set t (e.at + 2) 0 in
        let new : (rest v start).entries ≡ before ++ (entry_of v e ∷ (rest t behind).entries) =
        rest_path (path_kept t (e.at + 2) 0 p tidy ahead).1
        ∙ ap (λ (l : List Entry). before ++ l) (rest_here v c e behind done_again ∙ ap (λ (r : Run). entry_of v e ∷ r.entries) rest_same)
        in
        let was : (rest t start).entries ≡ before ++ (entry_of t e ∷ (rest t behind).entries) =
        rest_path p ∙ ap (λ (l : List Entry). before ++ l) (rest_here t c e behind h) in
        let no : named_as 0xFC x (entry_of v e) ≡ named_as 0xFC x (entry_of t e) =
        ap (λ (b : Bool). b && same_name x (entry_of v e)) (unnamed 0xFC (entry_of v e) (λ q. omega (arith, status_now)))
        ∙ sym (ap (λ (b : Bool). b && same_name x (entry_of t e)) (unnamed 0xFC (entry_of t e) (λ q. omega (arith, status_was)))) in
        ap (any (named_as 0xFC x)) new ∙ any_replace (named_as 0xFC x) before (entry_of v e) (entry_of t e) (rest t behind).entries no
        ∙ sym (ap (any (named_as 0xFC x)) was)

    still_dropped : Still t (set t (e.at + 2) 0) start before e behind
    still_dropped =
        record {
          later = ap (λ (r : Run). r.entries) rest_same;
          named = still_named;
          path = path_snoc e (path_kept t (e.at + 2) 0 p tidy ahead).1 done_again;
        }

-- ---- the loop

pub record Dropping (s : Image) (start : Cursor) (m : Meter) (t : Image) (c : Cursor) (q : Meter) : Type 0 where
  pub left : Toward s m (drop_steps (rest s start).entries) t q
      (map delete_step (keep (superseded (rest s start).entries) (rest t c).entries))
  pub same : (x : Entry) → has_named 0xFC (rest t start).entries x ≡ has_named 0xFC (rest s start).entries x
  pub before : List Entry
  pub path : Path t start before c

pub dropping_start : (s : Image) (start : Cursor) (m : Meter) → Dropping s start m s start m
unfolding drop_steps
dropping_start s start m = record { left = λ u r f. f; same = λ x. refl; before = []; path = here }

module _ {s t : Image} {start c : Cursor} {m q : Meter} (w : Dropping s start m t c q) where
  judged : (x : Entry) → superseded (rest t start).entries x ≡ superseded (rest s start).entries x
  unfolding superseded
  judged x = ap (λ (b : Bool). named 0xF8 x && b) (w.same x)

  dropping_on : {u : Image} {r : Meter} (e : Spot) (behind : Cursor) → advance t c ≡ Item.Record e behind
      → Still t u start w.before e behind
      → Did t q (map delete_step (keep (superseded (rest t start).entries) (entry_of t e ∷ []))) u r → Dropping s start m u behind r
  dropping_on {u} {r} e behind h k d =
      let p = superseded (rest s start).entries in
      let f : map delete_step (keep p (rest t c).entries) ≡ map delete_step
      (keep (superseded (rest t start).entries) (entry_of t e ∷ [])) ++ map
      delete_step (keep p (rest u behind).entries) =
      ap (λ (l : List Entry). map delete_step (keep p l)) (rest_here t c e behind h)
      ∙ pick_first (p (entry_of t e)) (entry_of t e) (keep p (rest t behind).entries)
      ∙ ap₂ (λ (b : Bool) (l : List Entry). map delete_step (pick b (entry_of t e) []) ++ map delete_step (keep p l))
      (sym (judged (entry_of t e)))
      (sym k.later) in
      record {
        left = toward_more w.left f d;
        same = λ x. k.named x ∙ w.same x;
        before = w.before ++ (entry_of u e ∷ []);
        path = k.path;
      }

  pub dropping_more : {u : Image} {r : Meter} (e : Spot) (behind : Cursor) → Tidy start → advance t c ≡ Item.Record e behind
      → e.at + size_of e.n e.d ≤ length t
      → Did t q (map delete_step (keep (superseded (rest t start).entries) (entry_of t e ∷ []))) u r → Dropping s start m u behind r
  dropping_more {u} {r} e behind tidy h fits d = dropping_on e behind h (go _ refl) d where
    still : u ≡ t → Still t u start w.before e behind
    still k = rw k (still_same t start c w.before e behind w.path tidy h)

    done : (b : Bool) → superseded (rest t start).entries (entry_of t e) ≡ b → Did t q (map delete_step (pick b (entry_of t e) [])) u r
    done b g = subst (λ (x : Bool). Did t q (map delete_step (pick x (entry_of t e) [])) u r) g d

    go : (b : Bool) → superseded (rest t start).entries (entry_of t e) ≡ b → Still t u start w.before e behind
    go true g =
        ⊎_elim
        (λ (k : u ≡ set t (e.at + 2) 0). rw k
        (still_dropped t start c w.before e behind w.path tidy h fits (old_status t (rest t start).entries e g)))
        still
        (did_one (done true g))
    go false g = still ((done false g).bytes ∙ ap (run t) (take-nil (q.allowance - q.asked)))

  pub dropping_end : (r : Item) → r ≡ advance t c → NotRecord r → Did s m (drop_steps (rest s start).entries) t q
  dropping_end r e z =
      toward_end w.left (ap (λ (x : Run). map delete_step (keep (superseded (rest s start).entries) x.entries))
      (rest_done t c r e z))

-- ---- from the head on

pub sound_same : (s t : Image) (c : Cursor) → CursorSound s c → length t ≡ length s → CursorSound t c
sound_same s t c w e = record { ordered = w.ordered; inside = rw e w.inside; room = rw e w.room; small = rw e w.small }

pub tidy_first : (s : Image) (h : ℕ) → h ≤ length s → Tidy (first_cursor s h)
tidy_first s h l = record { ordered = l; apart = omega arith }

-- ---- one record, as the code finds it

module _ (s : Image) (es : List Entry) (e : Entry) where
  pub drop_this : superseded es e ≡ true → map delete_step (keep (superseded es) (e ∷ [])) ≡ program (e.at + 2) 0x00 ∷ []
  drop_this h = ap (λ (b : Bool). map delete_step (pick b e [])) h

  pub drop_none : superseded es e ≡ false → map delete_step (keep (superseded es) (e ∷ [])) ≡ []
  drop_none h = ap (λ (b : Bool). map delete_step (pick b e [])) h
