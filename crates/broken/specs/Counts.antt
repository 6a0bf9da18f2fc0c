-- What is counted of a list of slots, given by their conditions.
use Rattle.std.specs.Prelude.{◌≡◌, List}
use Rattle.rules.specs.Word.{Condition}
use Rattle.rules.specs.Store.{count}
use Rattle.rules.specs.Listing.{is_half, is_spoiled}
use Rattle.broken.specs.declared.Broken.{Broken}

pub record Counts (cs : List Condition) (r : Broken) : Type 0 where
  pub half : r.half ≡ count is_half cs
  pub spoiled : r.spoiled ≡ count is_spoiled cs
