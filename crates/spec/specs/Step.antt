-- "Every change to the image goes through two functions, one that programs one byte and one that erases one sector".
use Rattle.std.specs.Prelude.{ℕ, ◌+◌, List, [], ◌∷◌, ◌++◌, take, drop, set, replicate}

-- an image of flash: its bytes
abbrev pub Image : Type 0
Image = List ℕ

-- a flash step: program this address with this byte; erase the sector that starts at this address
pub data Step : Type 0 where
  program : ℕ → ℕ → Step
  erase : ℕ → Step

-- an erased sector; shut, so that no goal writes out its 4,096 bytes
unfoldable pub sector : List ℕ
sector = replicate 4096 0xFF

-- what one step does to an image
abbrev pub apply : Image → Step → Image
apply image (program a b) = set image a b
apply image (erase a) = take a image ++ (sector ++ drop 4096 (drop a image))

-- what a list of steps does
abbrev pub run : Image → List Step → Image
run image [] = image
run image (s ∷ ss) = run (apply image s) ss

-- the bytes of w, programmed one after another from address a
abbrev pub bytes_at : ℕ → List ℕ → List Step
bytes_at a [] = []
bytes_at a (b ∷ w) = program a b ∷ bytes_at (a + 1) w

-- steps whose addresses count from a record's start, for the record at address a
abbrev pub shifted : ℕ → List Step → List Step
shifted a [] = []
shifted a (program i b ∷ ss) = program (a + i) b ∷ shifted a ss
shifted a (erase i ∷ ss) = erase (a + i) ∷ shifted a ss
