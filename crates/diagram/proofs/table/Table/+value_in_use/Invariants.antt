use Rattle.diagram.proofs.table.Table.+value_in_use.Given as goal

abbrev pub decreases-value_in_use : goal.decreases-value_in_use
decreases-value_in_use g l = l.h
