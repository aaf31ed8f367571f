use Rattle.std.proofs.Common.{◌≡◌, ◌≤◌, length, map, take, vec_capacity}
use Rattle.csv.specs.Records.{fields_of}
use Rattle.schedule.specs.Schedule.{AreOrders}
use Rattle.schedule.proofs.reading.orders_of.Given as goal

-- the records so far ask for the orders so far, and there is room for all
abbrev pub invariant-loop-i : goal.invariant-loop-i
invariant-loop-i l = record {
  orders : AreOrders (take l.i (map fields_of l.later)) l.orders.items;
  count : length l.orders.items ≡ l.i;
  room : length l.later ≤ vec_capacity l.orders;
}
