mod Multipliers
