-- `entry_at` takes the row of the larger count.
use Rattle.by_counts.proofs.Known.{last, rowed, last_rowed, larger}
use Rattle.by_counts.proofs.entries.entry_at.Goals as goal

pub row_2-requires : goal.row_2-requires
row_2-requires c = rowed c.in-2.is c.requires

pub row_3-requires : goal.row_3-requires
row_3-requires c = rowed c.in-3.is c.requires

pub row_4-requires : goal.row_4-requires
row_4-requires c = rowed c.in-4.is c.requires

pub row_5-requires : goal.row_5-requires
row_5-requires c = rowed c.in-5.is c.requires

pub row_6-requires : goal.row_6-requires
row_6-requires c = rowed c.in-6.is c.requires

pub row_7-requires : goal.row_7-requires
row_7-requires c = rowed c.in-7.is c.requires

pub row_8-requires : goal.row_8-requires
row_8-requires c = rowed c.in-8.is c.requires

pub row_9-requires : goal.row_9-requires
row_9-requires c = rowed c.in-9.is c.requires

pub row_10-requires : goal.row_10-requires
row_10-requires c = rowed c.in-10.is c.requires

pub row_11-requires : goal.row_11-requires
row_11-requires c = rowed c.in-11.is c.requires

pub row_12-requires : goal.row_12-requires
row_12-requires c = rowed c.in-12.is c.requires

pub row_13-requires : goal.row_13-requires
row_13-requires c = rowed c.in-13.is c.requires

pub row_14-requires : goal.row_14-requires
row_14-requires c = rowed c.in-14.is c.requires

pub row_15-requires : goal.row_15-requires
row_15-requires c = rowed c.in-15.is c.requires

pub row_16-requires : goal.row_16-requires
row_16-requires c = rowed c.in-16.is c.requires

pub row_17-requires : goal.row_17-requires
row_17-requires c = rowed c.in-17.is c.requires

pub row_18-requires : goal.row_18-requires
row_18-requires c = rowed c.in-18.is c.requires

pub row_19-requires : goal.row_19-requires
row_19-requires c = rowed c.in-19.is c.requires

pub row_20-requires : goal.row_20-requires
row_20-requires c = rowed c.in-20.is c.requires

pub row_21-requires : goal.row_21-requires
row_21-requires c = rowed c.in-21.is c.requires

pub row_22-requires : goal.row_22-requires
row_22-requires c = rowed c.in-22.is c.requires

pub row_23-requires : goal.row_23-requires
row_23-requires c = rowed c.in-23.is c.requires

pub row_24-requires : goal.row_24-requires
row_24-requires c = rowed c.in-24.is c.requires

pub row_25-requires : goal.row_25-requires
row_25-requires c = last_rowed c.requires

pub returns-in-2 : goal.returns-in-2
returns-in-2 c = rw c.in-2.is c.row_2.ensures

pub returns-in-3 : goal.returns-in-3
returns-in-3 c = rw c.in-3.is c.row_3.ensures

pub returns-in-4 : goal.returns-in-4
returns-in-4 c = rw c.in-4.is c.row_4.ensures

pub returns-in-5 : goal.returns-in-5
returns-in-5 c = rw c.in-5.is c.row_5.ensures

pub returns-in-6 : goal.returns-in-6
returns-in-6 c = rw c.in-6.is c.row_6.ensures

pub returns-in-7 : goal.returns-in-7
returns-in-7 c = rw c.in-7.is c.row_7.ensures

pub returns-in-8 : goal.returns-in-8
returns-in-8 c = rw c.in-8.is c.row_8.ensures

pub returns-in-9 : goal.returns-in-9
returns-in-9 c = rw c.in-9.is c.row_9.ensures

pub returns-in-10 : goal.returns-in-10
returns-in-10 c = rw c.in-10.is c.row_10.ensures

pub returns-in-11 : goal.returns-in-11
returns-in-11 c = rw c.in-11.is c.row_11.ensures

pub returns-in-12 : goal.returns-in-12
returns-in-12 c = rw c.in-12.is c.row_12.ensures

pub returns-in-13 : goal.returns-in-13
returns-in-13 c = rw c.in-13.is c.row_13.ensures

pub returns-in-14 : goal.returns-in-14
returns-in-14 c = rw c.in-14.is c.row_14.ensures

pub returns-in-15 : goal.returns-in-15
returns-in-15 c = rw c.in-15.is c.row_15.ensures

pub returns-in-16 : goal.returns-in-16
returns-in-16 c = rw c.in-16.is c.row_16.ensures

pub returns-in-17 : goal.returns-in-17
returns-in-17 c = rw c.in-17.is c.row_17.ensures

pub returns-in-18 : goal.returns-in-18
returns-in-18 c = rw c.in-18.is c.row_18.ensures

pub returns-in-19 : goal.returns-in-19
returns-in-19 c = rw c.in-19.is c.row_19.ensures

pub returns-in-20 : goal.returns-in-20
returns-in-20 c = rw c.in-20.is c.row_20.ensures

pub returns-in-21 : goal.returns-in-21
returns-in-21 c = rw c.in-21.is c.row_21.ensures

pub returns-in-22 : goal.returns-in-22
returns-in-22 c = rw c.in-22.is c.row_22.ensures

pub returns-in-23 : goal.returns-in-23
returns-in-23 c = rw c.in-23.is c.row_23.ensures

pub returns-in-24 : goal.returns-in-24
returns-in-24 c = rw c.in-24.is c.row_24.ensures

pub returns-in_default : goal.returns-in_default
returns-in_default c = rw (last 23 (larger c.requires) c.in_default.in_default-own.rest) c.row_25.ensures
