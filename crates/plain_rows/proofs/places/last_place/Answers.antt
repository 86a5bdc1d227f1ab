use Rattle.std.proofs.Common.{rules, of_calls, nat_le, ◌-◌, sym, arith}
use Rattle.std.proofs.lemmas.List.Sorted.{IsPartitionPoint-from_clause, IsPartitionedBy-leb}
use Rattle.plain_rows.specs.declared.places.Place.{Place}
use Rattle.plain_rows.proofs.LastPlace.{none_passes, last_passes}
use Rattle.plain_rows.proofs.places.last_place.Goals as goal

pub returns-then-end-eq0 : goal.returns-then-end-eq0
returns-then-end-eq0 c =
    let places = c.args.places.now in
    let at = c.args.at in
    let point = IsPartitionPoint-from_clause (λ (place : Place). nat_le place.block at) places
    c.partition_point-end.result c.partition_point-end.ensures.partitioned
    (IsPartitionedBy-leb (λ (place : Place). place.block) places at c.requires)
    (λ a r f k. search (rules, of_calls)) in
    sym (none_passes (λ (place : Place). nat_le place.block at) places
    (λ j d l m. point.1 j d (omega arith) m))

pub returns : goal.returns
returns c =
    let places = c.args.places.now in
    let at = c.args.at in
    let end = c.partition_point-end.result in
    let point = IsPartitionPoint-from_clause (λ (place : Place). nat_le place.block at) places end
    c.partition_point-end.ensures.partitioned
    (IsPartitionedBy-leb (λ (place : Place). place.block) places at c.requires)
    (λ a r f k. search (rules, of_calls)) in
    sym (last_passes (λ (place : Place). nat_le place.block at) places (end - 1)
    (record { block = 0; row = 0 }) (omega (arith, c.partition_point-end.ensures.bound))
    (point.0 (end - 1) (record { block = 0; row = 0 }) (omega arith) (omega arith))
    (λ j d l m. point.1 j d (omega (arith, l)) m))
