pub mod DrawnTurns
