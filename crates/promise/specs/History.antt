-- What may have befallen a store: the history that the promise speaks of, in calls and power failures.
use Rattle.std.specs.Prelude.{ℕ, ◌≡◌, List, drop}
use Rattle.rules.specs.Flash.{Step, after, Fails, Left}
use Rattle.rules.specs.Steps.{Change, recovery_steps, write_steps}
use Rattle.rules.specs.Page.{Form, size, Chip, Page}
use Rattle.rules.specs.Owner.{Owner}
use Rattle.rules.specs.Call.{form_of, pages, OK, Formatted, Stepped}
use Rattle.promise.specs.Calls.{Image, Calls}

-- the pages of an image, read by its edition
abbrev pub pages_of : Chip → Image → List Page
pages_of chip i = pages (form_of chip i) i

-- the steps of a recovery and of a write, fixed by the image at the call
abbrev pub recovery_of : (form : Form) → Image → List Step
recovery_of fm i = recovery_steps fm.edition (pages fm i)

abbrev pub write_of : (form : Form) → Change → Image → List Step
write_of fm c i = write_steps fm.edition c (pages fm i)

-- C16. Stopped. A call has done some of its steps. Power fails: the next step, if there is one, is not begun or fails. A call that has
-- finished has no next step.
abbrev pub FailsAfter : (form : Form) (done : Stepped) → (steps : List Step) → (left : Image) → Type 0
FailsAfter fm done steps left = Left (after (size fm)) (Fails (size fm)) 0 (drop done.steps steps) done.image left

module _ (chip : Chip) (C : Calls) where
  -- what a recovery leaves: finished, stopped by its allowance, or by a failure
  pub record RecoveryLeaves (i left : Image) : Type 0 where
    pub allowance : ℕ
    pub done : Stepped
    pub called : C.Recovers allowance i done
    pub fails : FailsAfter (form_of chip i) done (recovery_of (form_of chip i) i) left

  -- what an owner's accepted write leaves that has done n whole steps
  pub record WriteLeaves (o : Owner) (c : Change) (i : Image) (n : ℕ) (left : Image) : Type 0 where
    pub allowance : ℕ
    pub done : Stepped
    pub called : C.Writes o c allowance i done
    pub accepted : done.number ≡ OK
    pub counted : done.steps ≡ n
    pub fails : FailsAfter (form_of chip i) done (write_of (form_of chip i) c i) left

  -- A store in use: its last format finished, and only our calls have touched it since. Power may have failed in any step of a
  -- write, by whatever owner, or recovery. That a recovery has finished before each write is not asked: a write is refused as long as
  -- one is needed.
  pub data InUse : Image → Type 0 where
    formatted : (e : ℕ) (i : Image) (f : Formatted) → C.Formats e i f → f.number ≡ OK → InUse f.image
    recovered : {i j : Image} → InUse i → RecoveryLeaves i j → InUse j
    written : {i j : Image} {n : ℕ} (o : Owner) (c : Change) → InUse i → WriteLeaves o c i n j → InUse j

  -- any number of recoveries, each finished or stopped anywhere
  pub data Recoveries : (before left : Image) → Type 0 where
    none : {i : Image} → Recoveries i i
    more : {i j k : Image} → RecoveryLeaves i j → Recoveries j k → Recoveries i k

  -- Power fails anywhere in an accepted write, n steps of which are done, and perhaps in the recoveries after it.
  pub record Interrupted (o : Owner) (c : Change) (i : Image) (n : ℕ) (left : Image) : Type 0 where
    pub after_write : Image
    pub write : WriteLeaves o c i n after_write
    pub then : Recoveries after_write left
