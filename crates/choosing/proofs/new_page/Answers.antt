use mathlib.Core.Path.{◌≡◌, sym, ◌∙◌}
use native.Mathlib.Omega.{arith}
use Rattle.rules.specs.Store.{index}
use Rattle.survey.specs.Look.{roles_of}
use Rattle.choosing.specs.Candidate.{chosen}
use Rattle.choosing.proofs.Candidates.{index_is}
use Rattle.choosing.proofs.Ways.{page_end, page_move, page_open}
use Rattle.choosing.proofs.new_page.Goals as goal
use Rattle.choosing.proofs.new_page.Goals.{After-unwrap-page}

page_is : (c : After-unwrap-page) → c.unwrap-page.result ≡ index (chosen (roles_of c.args.look.now))
page_is c =
    index_is (chosen (roles_of c.args.look.now)) c.unwrap-page.result
    (sym c.least_worn.ensures ∙ c.unwrap-page.ensures)

pub returns-then-is_last : goal.returns-then-is_last
returns-then-is_last c = let look = c.args.look.now in page_end (roles_of look) look.cleared look.order c.if-is_last.true

pub unwrap-page-requires : goal.unwrap-page-requires
unwrap-page-requires c = rw c.least_worn.ensures c.requires.cleared

pub returns-then-is_only_one : goal.returns-then-is_only_one
returns-then-is_only_one c =
    let look = c.args.look.now in
    page_move (roles_of look) look.cleared look.order c.if-is_last.false _ (page_is (goal.at.returns-then-is_only_one c).After-unwrap-page) (omega arith)

pub returns : goal.returns
returns c =
    let look = c.args.look.now in
    page_open (roles_of look) look.cleared look.order c.if-is_last.false _ (page_is (goal.at.returns c).After-unwrap-page) (omega arith)
