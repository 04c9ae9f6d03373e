use Rattle.std.proofs.Common.{◌≡◌, ◌+◌, ◌-◌, ◌*◌, min}
use Rattle.mlt1.specs.Left.{left}
use Rattle.mlt1.proofs.state.RunState.next_step.Given as goal

abbrev pub invariant-loop-element : goal.invariant-loop-element
invariant-loop-element l =
    (left l.size.words (min l.size.width 64) l.self ≡ left l.size.words (min l.size.width 64) l.initial.self)
    × (l.self.place ≡ l.initial.self.place) × (l.self.misses ≡ l.initial.self.misses)

-- a visit more, or an element more
abbrev pub decreases-loop-element : goal.decreases-loop-element
decreases-loop-element l = (7 - l.self.element) * 131072 + (65536 - l.self.visit)
