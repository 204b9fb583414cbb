use Rattle.diagram.proofs.table.Table.+collect.Given as goal

abbrev pub decreases-collect : goal.decreases-collect
decreases-collect l = l.h
