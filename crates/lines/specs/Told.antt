-- The listing's line one in the terms of the code.
use Rattle.std.specs.Prelude.{ℕ, List, ◌++◌}
use Rattle.rules.specs.Listing.{decimal, text_pages, text_used, text_cleared, text_order, text_held, text_half, text_spoiled, line_end}
use Rattle.survey.specs.declared.Look.{Look}
use Rattle.broken.specs.declared.Broken.{Broken}

-- line one, of what was told of the pages, of the number held and of the broken words
unfoldable pub told_line : Look → (held : ℕ) → Broken → List ℕ
told_line l held b =
    text_pages ++ decimal l.count ++ text_used ++ decimal l.used ++ text_cleared ++ decimal l.cleared ++ text_order ++ decimal l.order
    ++ text_held ++ decimal held ++ text_half ++ decimal b.half ++ text_spoiled ++ decimal b.spoiled ++ line_end
