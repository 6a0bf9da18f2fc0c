-- The invariant: the lines of the settings passed stand behind what stood in the text.
use Rattle.std.proofs.Common.{◌≡◌, ◌+◌, ◌*◌, ◌≤◌}
use Rattle.arrayvec.specs.ArrayString.{array_string_len}
use Rattle.lines.proofs.Lines.{with_lines}
use Rattle.lines.proofs.push_settings.Given as goal

abbrev pub invariant-loop-setting : goal.invariant-loop-setting
invariant-loop-setting l =
    (array_string_len l.text ≤ array_string_len l.initial.text + l.setting-index * 10)
    × (l.text.bytes ≡ with_lines l.initial.text.bytes l.settings l.setting-index)
