mod Figures
