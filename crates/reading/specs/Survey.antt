-- The survey of a chain from a head on, broken or not: what the pass over it found, as the definitions' reading.
use Rattle.std.specs.Prelude.{ℕ, ◌+◌, ◌≤◌, ◌≡◌, refl, Bool, true, false, length}
use Rattle.std.proofs.Common.{arith, sym, ap, ◌∙◌}
use Rattle.spec.specs.declared.Ending.{Ending}
use Rattle.spec.specs.Step.{Image}
use Rattle.spec.specs.Chain.{reading_from}
use Rattle.laws.specs.Length.{InRange}
use Rattle.chain.specs.declared.Cursor.{Cursor}
use Rattle.chain.specs.declared.Item.{Item}
use Rattle.chain.specs.declared.Tally.{Tally}
use Rattle.chain.specs.declared.Pass.{Pass}
use Rattle.reading.specs.declared.Survey.{Survey}
use Rattle.chain.specs.declared.Repeats.{Repeats}
use Rattle.chain.specs.Cursor.{CursorSound}
use Rattle.chain.specs.Rest.{rest}
use Rattle.reading.specs.Bridge.{shown, reading_is}
use Rattle.reading.specs.Ends.{Closes, rest_closes}
use Rattle.chain.specs.Tally.{none_yet, passed, Spots, EndInside}
use Rattle.chain.specs.Repeats.{repeats_of}
use Rattle.reading.specs.Read.{first_cursor, reading_of, Surveyed, Known}

-- a torn wrap has all its eight bytes
abbrev pub TornInside : ℕ → Ending → Type 0
TornInside N Ending.Tail = Unit {0}
TornInside N (Ending.TornWrap a) = a + 8 ≤ N
TornInside N Ending.Broken = Unit {0}

pub torn_same : (N M : ℕ) (x : Ending) → M ≡ N → TornInside N x → TornInside M x
torn_same N M x e t = rw e t

pub record Seen (image : Image) (h : ℕ) (s : Survey) : Type 0 where
  pub surveyed : Surveyed image s
  pub same : reading_of image s ≡ reading_from image h
  pub head : s.place.head ≡ h
  pub up : s.place.turned ≡ false → h ≤ s.place.tail
  pub torn : TornInside (length image) s.ending

abbrev pub told : ℕ → ℕ → ℕ → Bool → Ending → Tally → Survey
told N h tail turned ending t = record { place = record { head = h; tail = tail; turned = turned; length = N }; ending = ending; tally = t }

-- the survey of a pass that ends so
abbrev pub survey_of : ℕ → ℕ → Item → Tally → Survey
survey_of N h (Item.Record e c) t = told N h 0 false Ending.Broken t
survey_of N h (Item.End tail turned) t = told N h tail turned Ending.Tail t
survey_of N h (Item.TornWrap a) t = told N h 0 true (Ending.TornWrap a) t
survey_of N h (Item.Broken tail turned) t = told N h tail turned Ending.Broken t

pub first_sound : (image : Image) (h : ℕ) → h ≤ length image → InRange (length image) → CursorSound image (first_cursor image h)
first_sound image h l s = record { ordered = l; inside = omega arith; room = omega arith; small = s }

module _ (image : Image) (h : ℕ) (l : h ≤ length image) (small : InRange (length image)) (p : Pass)
    (q : p ≡ passed none_yet (rest image (first_cursor image h))) (spots : Spots image p.tally)
    (inside : EndInside image p.end) where
  read_as : (s : Item) → p.end ≡ s → shown image (length image) h (rest image (first_cursor image h)).entries s ≡ reading_from image h
  read_as s d =
      ap (shown image (length image) h (rest image (first_cursor image h)).entries) (sym d ∙ ap (λ (x : Pass). x.end) q)
      ∙ reading_is image h l

  seen_as : (t : ℕ) (w : Bool) (x : Ending) → t ≤ length image
      → reading_of image (told (length image) h t w x p.tally) ≡ reading_from image h → (w ≡ false → h ≤ t)
      → TornInside (length image) x
      → Seen image h (told (length image) h t w x p.tally)
  seen_as t w x i same up torn =
      record {
        surveyed =
            record {
              tallied = record { sound = first_sound image h l small; same = ap (λ (y : Pass). y.tally) q; spots = spots };
              place = record { head = l; tail = i; whole = refl; small = small };
            };
        same = same;
        head = refl;
        up = up;
        torn = torn;
      }

  by_end : (s : Item) → p.end ≡ s → EndInside image s → Closes image (first_cursor image h) s
      → Seen image h (survey_of (length image) h s p.tally)
  by_end (Item.Record x d) f i o = absurd o
  by_end (Item.End t w) f i o = seen_as t w Ending.Tail i (read_as (Item.End t w) f) (λ z. (o z).1) tt
  by_end (Item.TornWrap t) f i o =
      seen_as 0 true (Ending.TornWrap t) (omega arith) (read_as (Item.TornWrap t) f)
      (λ z. absurd (let y : ◌≡◌ {A = ℕ} 0 1 = cc in omega arith)) o
  by_end (Item.Broken t w) f i o = seen_as t w Ending.Broken i (read_as (Item.Broken t w) f) (λ z. (o z).1) tt

  pub seen : Seen image h (survey_of (length image) h p.end p.tally)
  seen = by_end p.end refl inside (rw q (rest_closes image (first_cursor image h)))

-- ---- what a judgement goes by

pub known : (image : Image) (h : ℕ) {s : Survey} {n : Repeats} {start : Cursor}
    → Seen image h s × (n ≡ repeats_of (rest image (first_cursor image h)).entries) → start ≡ first_cursor image h → Known image start s n
known image h {s} {n} {start} e q =
    record {
      surveyed = e.0.surveyed;
      at_head = q ∙ ap (first_cursor image) (sym e.0.head);
      names = e.1 ∙ ap (λ (c : Cursor). repeats_of (rest image c).entries) (sym q);
    }
