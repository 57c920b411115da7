use Rattle.std.proofs.Common.{◌≡◌, ◌+◌, ◌*◌, ◌/◌, ◌%◌, ◌^◌, ◌<◌, ◌≤◌}
use Rattle.float.proofs.remainder.reduce.Given as goal

-- ten places are reduced in each turn of the first loop, and one in each of the second
abbrev pub invariant-loop : goal.invariant-loop
invariant-loop l = (l.rest ≡ l.m * 2 ^ (10 * l.counter) % l.n) × (l.rest < l.n) × (l.counter ≤ l.end)

abbrev pub invariant-loop-2 : goal.invariant-loop-2
invariant-loop-2 l = (l.rest ≡ l.m * 2 ^ (10 * (l.shift / 10) + l.counter) % l.n) × (l.rest < l.n) × (l.counter ≤ l.end)
